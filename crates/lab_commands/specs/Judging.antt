-- The output of `judge`: the report of a judgement of the history in the input, or the first fault of the file.
use Rattle.std.specs.Prelude.{◌≡◌, ℕ, None, List}
use Rattle.lab_history.specs.History.{History}
use Rattle.lab_judge.specs.Judgement.{IsExactJudgement}
use Rattle.lab_judge.specs.declared.report.Report.{Report}
use Rattle.lab_streams.specs.declared.ending.Ending.{Ending}
use Rattle.lab_streams.specs.declared.reporting.Wanted.{Wanted}
use Rattle.lab_streams.specs.HistoryFile.{IsToldOf}
use Rattle.lab_streams.specs.Reports.{said_of, ending_due}

-- the text is that of a judgement of the history, and the ending says whether it meets what is required
pub record IsReportOf (wanted : Wanted) (history : History) (text : List ℕ) (ending : Ending) : Type 0 where
  pub report : Report
  pub judgement : IsExactJudgement history report
  pub text_is : text ≡ said_of wanted.format None report
  pub ends : ending ≡ ending_due wanted.requirement report

-- the text is what is to be said of the input, and the ending is the one due
abbrev pub IsJudgeAnswer : Wanted → List ℕ → List ℕ → Ending → Type 0
IsJudgeAnswer wanted input text ending = IsToldOf wanted.format (IsReportOf wanted) input text ending
