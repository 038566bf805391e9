-- The value of a text is a string where the text is UTF-8, and else null.
use Rattle.std.{proofs.{Common.{◌≡◌, ℕ, Bool, true, false, cond, List, refl, ap}, lemmas.Str.{IsUtf8-from_is_utf8, is_utf8-from_IsUtf8}}, specs.Str.{IsUtf8, is_utf8}}
use Rattle.serde_json.specs.Data.{null, string}
use Rattle.lab_chain.specs.ChainTree.{text_tree}

pub utf8_is_string : (text : List ℕ) → IsUtf8 text → text_tree text ≡ string text
utf8_is_string text is = ap (λ b. cond b (string text) null) (is_utf8-from_IsUtf8 text is)

other_is_null : (text : List ℕ) (b : Bool) → is_utf8 text ≡ b → ¬ (IsUtf8 text) → cond b (string text) null ≡ null
other_is_null text true is not = absurd (not (IsUtf8-from_is_utf8 text is))
other_is_null text false is not = refl

pub other_texts_are_null : (text : List ℕ) → ¬ (IsUtf8 text) → text_tree text ≡ null
other_texts_are_null text not = other_is_null text (is_utf8 text) refl not
