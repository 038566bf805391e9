use Rattle.lab_page.proofs.{ReadBack.{text_back}, Untagging.{led_untagged}}
use Rattle.lab_page.proofs.laws.without_tags_a_sentence_is_as_it_was.Goals as goal

pub returns : goal.returns
returns c = record { tags = λ text. led_untagged text; names = λ text. text_back text }
