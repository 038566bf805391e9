use Rattle.std.{proofs.{Common.{sym, subst}, lemmas.Result.{IfOk-weaker}}, specs.Prelude.{Contains}}
use Rattle.lab_deps.proofs.WriteEdges.{are_writes, writes_are}
use Rattle.lab_deps.proofs.dependencies.Dependencies.of_writes.Goals as goal

pub returns-clause-edges : goal.returns-clause-edges
returns-clause-edges c =
    let h = c.args.history.now in
    IfOk-weaker c.in_scope.result _ _
    (λ found is e. (
      λ there. are_writes h c.requires e (subst (λ es. Contains es e) is there),
      λ edge. subst (λ es. Contains es e) (sym is) (writes_are h c.requires e edge),
    ))
    c.in_scope.ensures.edges
