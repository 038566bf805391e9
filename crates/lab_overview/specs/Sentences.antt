-- Sentences with markup: bold up to the first colon.
--
-- Origin: HTML.
use Rattle.std.specs.Prelude.{ℕ, ◌==◌, not, List, ◌++◌, take, drop, codes}
use Rattle.std.specs.List.{prefix_len}
use Rattle.lab_drawing.specs.Text.{escaped}

-- how many bytes of a sentence stand before its first colon
abbrev pub lead_length : List ℕ → ℕ
lead_length text = prefix_len (λ b. not (b == 58)) text

-- a sentence, with what stands before its first colon in bold letters
unfoldable pub led_text : List ℕ → List ℕ
led_text text = codes "<b>" ++ escaped (take (lead_length text) text) ++ codes "</b>" ++ escaped (drop (lead_length text) text)

-- a sentence as a paragraph
unfoldable pub paragraph_text : List ℕ → List ℕ
paragraph_text text = codes "<p>" ++ escaped text ++ codes "</p>\n"
