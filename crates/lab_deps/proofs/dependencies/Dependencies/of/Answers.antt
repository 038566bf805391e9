use Rattle.std.{proofs.{Common.{sym, subst}, lemmas.Result.{IfOk-weaker}}, specs.Prelude.{Contains}}
use Rattle.lab_deps.proofs.CollectedEdges.{collected_is_edge, edge_is_collected}
use Rattle.lab_deps.proofs.dependencies.Dependencies.of.Goals as goal

pub returns-clause-edges : goal.returns-clause-edges
returns-clause-edges c =
    let h = c.args.history.now in
    IfOk-weaker c.in_scope.result _ _
    (λ found is e. (
      λ there. collected_is_edge h c.requires e (subst (λ es. Contains es e) is there),
      λ edge. subst (λ es. Contains es e) (sym is) (edge_is_collected h e edge),
    ))
    c.in_scope.ensures.edges
