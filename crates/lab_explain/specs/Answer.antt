-- The output of `explain`: sentences on a judgement of the history in the input, or the first fault of the file.
use Rattle.std.specs.Prelude.{◌≡◌, ℕ, Option, List}
use Rattle.lab_history.specs.History.{History}
use Rattle.lab_judge.specs.Judgement.{IsExactJudgement}
use Rattle.lab_judge.specs.declared.report.Report.{Report}
use Rattle.lab_streams.specs.declared.ending.Ending.{Ending}
use Rattle.lab_streams.specs.declared.ending.Ending.TheVariants.{Done}
use Rattle.lab_streams.specs.HistoryFile.{IsToldOf}
use Rattle.lab_streams.specs.declared.reporting.Format.TheVariants.{Lines}
use Rattle.lab_reports.specs.declared.phenomenon.Phenomenon.{Phenomenon}
use Rattle.lab_explain.specs.Explanation.{explanation_of}

-- the text is the explanation of a judgement of the history, or of what that finds of a phenomenon
pub record IsExplanationOf (history : History) (asked : Option Phenomenon) (text : List ℕ) : Type 0 where
  pub report : Report
  pub judgement : IsExactJudgement history report
  pub text_is : text ≡ explanation_of history report asked

-- the text is such an explanation, and the ending is the one due
abbrev pub Explains : Option Phenomenon → History → List ℕ → Ending → Type 0
Explains asked history text ending = IsExplanationOf history asked text × (ending ≡ Done)

-- the text is what is to be said of the input, and the ending is the one due: the explanation, or the line of the file's first fault
abbrev pub IsExplainAnswer : List ℕ → Option Phenomenon → List ℕ → Ending → Type 0
IsExplainAnswer input asked text ending = IsToldOf Lines (Explains asked) input text ending
