use Rattle.std.proofs.Common.{◌∙◌}
use Rattle.lab_drawing.proofs.FewCommitted.{few_committed}
use Rattle.lab_drawing.proofs.dependence.Dependence.numbers.Goals as goal

pub returns-clause-few : goal.returns-clause-few
returns-clause-few c = few_committed c.self.inside.history.now c.deref.result.now c.txns.ensures.keeps (c.deref.ensures.value ∙ c.self.invariant.0)
