-- The picture of a report on a history.
use Rattle.std.specs.Prelude.{◌≡◌, ℕ, Option, List}
use Rattle.lab_history.specs.History.{History}
use Rattle.lab_judge.specs.declared.report.Report.{Report}
use Rattle.lab_reports.specs.declared.phenomenon.Phenomenon.{Phenomenon}
use Rattle.lab_drawing.specs.declared.drawing.Arrow.{Arrow}
use Rattle.lab_picture.specs.Forward.{AreForward, yes_columns, with_forward}
use Rattle.lab_drawing.specs.Sketch.{drawing_of}
use Rattle.lab_picture.specs.Svg.{svg_of}

-- the text is the picture of this report: of its serial verdict, with the arrows of a yes, or of what it finds of a phenomenon
pub record IsPictureWith (history : History) (report : Report) (asked : Option Phenomenon) (text : List ℕ) : Type 0 where
  pub forward : List Arrow
  pub leads : AreForward history (yes_columns report asked) forward
  pub text_is : text ≡ svg_of history (with_forward forward (drawing_of history report asked))
