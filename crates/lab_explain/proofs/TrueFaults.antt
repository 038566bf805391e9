-- The fault in place of an order stands.
use Rattle.std.proofs.Common.{◌≡◌, subst}
use Rattle.lab_history.specs.History.{History}
use Rattle.lab_deps.specs.{Soundness.{Stands}, declared.fault.LocalFault.{LocalFault}}
use Rattle.lab_judge.specs.{Judgement.{IsExactJudgement, IsSerialVerdict}, declared.{report.Report.{Report}, serial.Serial.TheVariants.{NoFault}}}

pub stands : (h : History) (report : Report) (f : LocalFault) → IsExactJudgement h report → report.serial ≡ NoFault f → Stands h f
stands h report f exact is = (subst (IsSerialVerdict h) is exact.judgement.serial).0
