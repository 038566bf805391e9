use Rattle.lab_engine.proofs.{Common.{arith, ◌-◌}, PendingVersions.{roomy_less}}
use Rattle.lab_engine.proofs.row_state.RowState.give_up.Goals as goal

pub invariant_of-self : goal.invariant_of-self
invariant_of-self c =
    roomy_less _ _ c.self.inside.pending c.self.invariant (c.args.session - 1) (omega (arith, c.set.ensures.low, c.set.ensures.high)) _ c.set.ensures.values
