use Rattle.std.proofs.Common.{⊎_elim, subst}
use Rattle.lab_history.{specs.{Faults.{Gives}, FirstPartsFault.{checked}}, proofs.{KeptParts.{checked_keeps, fault_breaks}, PartsFaults.{fault_true}}}
use Rattle.lab_history.proofs.history.History.from_parts.Goals as goal

pub assembled-requires : goal.assembled-requires
assembled-requires c = checked_keeps c.args.parts (subst (λ r. Gives (λ _. tt) r (checked c.args.parts)) c.in-Ok.is c.check_parts.ensures)

pub returns-in-Err-clause-only : goal.returns-in-Err-clause-only
returns-in-Err-clause-only c = λ other. ⊎_elim (λ is. absurd (other is)) (fault_breaks c.args.parts c.in-Err.fault) c.in-Err.ensures

pub returns-in-Err-clause-truth : goal.returns-in-Err-clause-truth
returns-in-Err-clause-truth c = λ other. ⊎_elim (λ is. absurd (other is)) (fault_true c.args.parts c.in-Err.fault) c.in-Err.ensures
