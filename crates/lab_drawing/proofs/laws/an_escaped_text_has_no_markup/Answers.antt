use Rattle.lab_drawing.proofs.Escapes.{no_markup}
use Rattle.lab_drawing.proofs.laws.an_escaped_text_has_no_markup.Goals as goal

pub returns : goal.returns
returns c = λ text. no_markup text
