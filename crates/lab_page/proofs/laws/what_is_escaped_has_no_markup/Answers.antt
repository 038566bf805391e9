use Rattle.lab_drawing.proofs.Escapes.{no_markup}
use Rattle.lab_page.proofs.ReadBack.{all_named}
use Rattle.lab_page.proofs.laws.what_is_escaped_has_no_markup.Goals as goal

pub returns : goal.returns
returns c = record { markup = λ text. no_markup text; ands = λ text. all_named text }
