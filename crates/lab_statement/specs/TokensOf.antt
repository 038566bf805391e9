-- Which tokens a text has: each is as long as possible, and spaces and tabs only separate.
--
-- Origin: longest match, as usual for lexers.
use Rattle.std.specs.Prelude.{◌≡◌, ℕ, ◌≤◌, ◌+◌, ◌-◌, ◌*◌, true, List, [], ◌∷◌, ◌++◌, Contains, fold, length, map, min, codes}
use Rattle.std.specs.List.{list_all}
use Rattle.std.specs.Char.{to_ascii_lowercase, is_ascii_digit}
use Rattle.lab_statement.specs.declared.token.Token.{Token}
use Rattle.lab_statement.specs.declared.token.Token.TheVariants as token
use Rattle.lab_statement.specs.Token.{is_blank, is_letter, word_token}

-- the tokens that are no words and no numbers, as they are spelled
abbrev pub marks : List (List ℕ × Token)
marks =
    (codes "<", token.Less) ∷ (codes ">", token.Greater) ∷ (codes "(", token.Open) ∷ (codes ")", token.Close) ∷ (codes ",", token.Comma) ∷ (codes ";", token.Semicolon)
    ∷ (codes "*", token.Star) ∷ (codes "=", token.Equal) ∷ (codes "%", token.Percent) ∷ (codes "+", token.Plus) ∷ (codes "-", token.Minus) ∷ (codes "<>", token.Unequal)
    ∷ (codes "<=", token.AtMost) ∷ (codes ">=", token.AtLeast) ∷ []

-- the number that digits spell, or one above the greatest number of any text
abbrev pub number_of : List ℕ → ℕ
number_of digits = min (fold (λ n b. 10 * n + (b - 48)) 0 digits) 1000000001

-- bytes that are one token: letters in either case, digits, or a mark
pub data IsToken : List ℕ → Token → Type 0 where
  of_letters : {b : ℕ} {bs : List ℕ} → list_all is_letter (b ∷ bs) ≡ true → IsToken (b ∷ bs) (word_token (map to_ascii_lowercase (b ∷ bs)))
  of_digits : {b : ℕ} {bs : List ℕ} → list_all is_ascii_digit (b ∷ bs) ≡ true → IsToken (b ∷ bs) (token.Digits (number_of (b ∷ bs)))
  of_mark : {text : List ℕ} {t : Token} → Contains marks (text, t) → IsToken text t

-- the tokens of a text, between spaces and tabs: each is the longest front of what is left that is a token
pub data AreTokens : List ℕ → List Token → Type 0 where
  none_left : AreTokens [] []
  blank_first : {b : ℕ} {bs : List ℕ} {ts : List Token} → is_blank b ≡ true → AreTokens bs ts → AreTokens (b ∷ bs) ts
  token_first : {front rest : List ℕ} {t : Token} {ts : List Token} → IsToken front t
      → ((longer behind : List ℕ) (other : Token) → longer ++ behind ≡ front ++ rest → IsToken longer other → length longer ≤ length front) → AreTokens rest ts → AreTokens (front ++ rest) (t ∷ ts)
