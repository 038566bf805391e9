-- A report without an order is of a history in which no transaction committed.
use Rattle.std.proofs.{Common.{◌≡◌, true, List, [], ◌∷◌}, lemmas.Bool.{false≢true}}
use Rattle.lab_history.specs.History.{History}
use Rattle.lab_judge.specs.{Judgement.{IsExactJudgement, IsSerialVerdict}, Runs.{HoldsEachOnce}, declared.{report.Report.{Report}, serial.Serial.{Serial}}}
use Rattle.lab_judge.specs.declared.serial.Serial.TheVariants as serial
use Rattle.lab_streams.specs.Reports.{is_empty_yes, is_idle}

pub nothing_committed : (h : History) (report : Report) → IsExactJudgement h report → is_idle report ≡ true → HoldsEachOnce h []
nothing_committed h report exact idle = at report.serial exact.judgement.serial idle
  where
    at : (s : Serial) → IsSerialVerdict h s → is_empty_yes s ≡ true → HoldsEachOnce h []
    at (serial.Yes []) verdict idle = verdict.each_once
    at (serial.Yes (n ∷ order)) verdict idle = absurd (false≢true idle)
    at (serial.NoFault f) verdict idle = absurd (false≢true idle)
    at (serial.NoCycle walk) verdict idle = absurd (false≢true idle)
