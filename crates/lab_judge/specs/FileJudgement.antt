-- The result for the bytes of a file: a judgement of its history, or its first fault.
use Rattle.std.specs.Prelude.{ℕ, List, Result, Ok, Err}
use Rattle.lab_history.specs.History.{History}
use Rattle.lab_history.specs.declared.fault.FileFault.{FileFault}
use Rattle.lab_history_file.specs.HistoryFile.{HoldsHistory, IsFileFault}
use Rattle.lab_judge.specs.Judgement.{IsExactJudgement}
use Rattle.lab_judge.specs.declared.report.Report.{Report}

-- the report is a judgement of the history that the bytes hold
pub record IsFileJudgement (bytes : List ℕ) (report : Report) : Type 0 where
  pub history : History
  pub held : HoldsHistory bytes history
  pub judgement : IsExactJudgement history report

-- a judgement of the history that the bytes hold, or the first fault that they have
abbrev pub IsFileAnswer : List ℕ → Result Report FileFault → Type 0
IsFileAnswer bytes (Ok report) = IsFileJudgement bytes report
IsFileAnswer bytes (Err fault) = IsFileFault bytes fault
