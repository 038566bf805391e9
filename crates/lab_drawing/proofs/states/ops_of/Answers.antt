use Rattle.std.proofs.Common.{◌≤◌, length, subst, sym}
use Rattle.lab_drawing.proofs.Operations.{few_of}
use Rattle.lab_drawing.proofs.states.ops_of.Goals as goal

pub returns-clause-few : goal.returns-clause-few
returns-clause-few c = subst (λ ops. length ops ≤ 10000) (sym c.ops_in.ensures) (few_of c.args.history.now c.args.txn c.txns.ensures.keeps)
