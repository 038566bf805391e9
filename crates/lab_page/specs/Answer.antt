-- The output of `page`: the page of a judgement of the history in the input, or the first fault of the file.
use Rattle.std.specs.Prelude.{◌≡◌, ℕ, Option, List}
use Rattle.lab_history.specs.History.{History}
use Rattle.lab_judge.specs.Judgement.{IsExactJudgement}
use Rattle.lab_judge.specs.declared.report.Report.{Report}
use Rattle.lab_streams.specs.declared.ending.Ending.{Ending}
use Rattle.lab_streams.specs.declared.ending.Ending.TheVariants.{Done}
use Rattle.lab_streams.specs.HistoryFile.{IsToldOf}
use Rattle.lab_streams.specs.declared.reporting.Format.TheVariants.{Lines}
use Rattle.lab_picture.specs.Drawn.{IsPictureWith}
use Rattle.lab_reports.specs.declared.phenomenon.Phenomenon.{Phenomenon}
use Rattle.lab_page.specs.Whole.{page_text}

-- the text is the page of a judgement of the history, or of what that finds of a phenomenon, under this title
pub record IsPageOf (history : History) (asked : Option Phenomenon) (title text : List ℕ) : Type 0 where
  pub report : Report
  pub judgement : IsExactJudgement history report
  pub picture : List ℕ
  pub drawn : IsPictureWith history report asked picture
  pub text_is : text ≡ page_text history report asked title picture

-- the text is such a page, and the ending is the one due
abbrev pub Pages : Option Phenomenon → List ℕ → History → List ℕ → Ending → Type 0
Pages asked title history text ending = IsPageOf history asked title text × (ending ≡ Done)

-- the text is what is to be said of the input, and the ending is the one due: the page, or the line of the file's first fault
abbrev pub IsPageAnswer : List ℕ → Option Phenomenon → List ℕ → List ℕ → Ending → Type 0
IsPageAnswer input asked title text ending = IsToldOf Lines (Pages asked title) input text ending
