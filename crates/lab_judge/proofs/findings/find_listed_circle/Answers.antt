use Rattle.std.proofs.{Common.{sym, subst}, lemmas.Result.{IfOk-weaker}}
use Rattle.lab_deps.{specs.{KindSets.{is_write}}, proofs.NamedKinds.{writes_named}}
use Rattle.lab_judge.{specs.Graphs.{IsNetOf}, proofs.WalkKinds.{only_write, named_circle}}
use Rattle.lab_judge.proofs.findings.find_listed_circle.Goals as goal

pub returns : goal.returns
returns c =
    let h = c.args.history.now in
    let found = c.in_ok-net.ensures in
    let of : IsNetOf h is_write c.in_ok-net.net = record {
      committed = record { each_once = found.nodes.each_once; rising = found.nodes.rising };
      edges = λ e there. ((found.edges e).0 there).0;
      all = λ e edge kind. (found.edges e).1 (edge, only_write e.kind kind);
    } in
    IfOk-weaker c.find_circle.result _ _
    (λ finding finds. named_circle h writes_named finding (finds h (subst (λ kinds. IsNetOf h kinds c.in_ok-net.net) (sym writes_named) of))) c.find_circle.ensures
