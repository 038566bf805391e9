-- Bytes of code are ASCII, and so are those of clear texts.
use Rattle.std.{proofs.{Common.{◌≡◌, ℕ, zero, suc, ◌<◌, ◌==◌, true, List, [], ◌∷◌, refl, arith}, lemmas.{Str.{IsUtf8-from_ascii}, Bool.{and_from, and_parts, or_right}}}, specs.{Prelude.{IsUtf8, IsAscii}, List.{list_all}}}
use Rattle.lab_statement.specs.Text.{is_code_byte}
use Rattle.lab_history_file.proofs.ClearTexts.{is_clear, Clear}

code_byte_below : (b : ℕ) → is_code_byte b ≡ true → b < 128
code_byte_below b h = grind arith

code_ascii : (text : List ℕ) → list_all is_code_byte text ≡ true → IsAscii text
code_ascii [] h i = omega arith
code_ascii (b ∷ text) h zero = code_byte_below b (and_parts _ _ h).0
code_ascii (b ∷ text) h (suc i) = code_ascii text (and_parts _ _ h).1 i

-- a text of code is UTF-8
pub code_is_utf8 : (text : List ℕ) → list_all is_code_byte text ≡ true → IsUtf8 text
code_is_utf8 text h = IsUtf8-from_ascii text (code_ascii text h)

-- a clear text is one of code
clear_code : (text : List ℕ) → list_all is_clear text ≡ true → list_all is_code_byte text ≡ true
clear_code [] h = refl
clear_code (b ∷ text) h = let parts = and_parts (is_clear b) _ h in and_from _ _ (or_right (b == 9) _ (and_parts _ _ parts.0).0) (clear_code text parts.1)

pub clear_is_utf8 : {text : List ℕ} → Clear text → IsUtf8 text
clear_is_utf8 {text} h = code_is_utf8 text (clear_code text h.all)
