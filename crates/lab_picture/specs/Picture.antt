-- The output of `picture`: the picture of a judgement of the history in the input, or the first fault of the file.
use Rattle.std.specs.Prelude.{◌≡◌, ℕ, Option, List}
use Rattle.lab_history.specs.History.{History}
use Rattle.lab_judge.specs.Judgement.{IsExactJudgement}
use Rattle.lab_judge.specs.declared.report.Report.{Report}
use Rattle.lab_streams.specs.declared.ending.Ending.{Ending}
use Rattle.lab_streams.specs.declared.ending.Ending.TheVariants.{Done}
use Rattle.lab_streams.specs.HistoryFile.{IsToldOf}
use Rattle.lab_streams.specs.declared.reporting.Format.TheVariants.{Lines}
use Rattle.lab_reports.specs.declared.phenomenon.Phenomenon.{Phenomenon}
use Rattle.lab_drawing.specs.declared.drawing.Arrow.{Arrow}
use Rattle.lab_picture.specs.Forward.{AreForward, yes_columns, with_forward}
use Rattle.lab_drawing.specs.Sketch.{drawing_of}
use Rattle.lab_picture.specs.Svg.{svg_of}

-- the text is the picture of a judgement of the history: of its serial verdict, with the arrows of a yes, or of what it finds of a phenomenon
pub record IsPictureOf (history : History) (asked : Option Phenomenon) (text : List ℕ) : Type 0 where
  pub report : Report
  pub judgement : IsExactJudgement history report
  pub forward : List Arrow
  pub leads : AreForward history (yes_columns report asked) forward
  pub text_is : text ≡ svg_of history (with_forward forward (drawing_of history report asked))

-- the text is such a picture, and the ending is the one due
abbrev pub Pictures : Option Phenomenon → History → List ℕ → Ending → Type 0
Pictures asked history text ending = IsPictureOf history asked text × (ending ≡ Done)

-- the text is what is to be said of the input, and the ending is the one due: the picture, or the line of the file's first fault
abbrev pub IsPictureAnswer : List ℕ → Option Phenomenon → List ℕ → Ending → Type 0
IsPictureAnswer input asked text ending = IsToldOf Lines (Pictures asked) input text ending
