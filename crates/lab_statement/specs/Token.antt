-- The tokens of a text as a function, byte by byte. A byte that begins no token is unknown.
use Rattle.std.specs.Prelude.{ℕ, ◌+◌, ◌-◌, ◌*◌, Bool, true, false, ◌||◌, ◌==◌, if◌then◌else◌, List, [], ◌∷◌, ◌++◌, Option, Some, None, is_some, option_map, unwrap_or, min}
use Rattle.std.specs.Char.{to_ascii_lowercase, is_ascii_alphabetic, is_ascii_digit}
use Rattle.lab_table.specs.TableName.{is_table_name}
use Rattle.lab_table.specs.Words.{word_named}
use Rattle.lab_statement.specs.declared.token.Token.{Token}
use Rattle.lab_statement.specs.declared.token.Token.TheVariants as token

-- a letter or a underscore
abbrev pub is_letter : ℕ → Bool
is_letter b = is_ascii_alphabetic b || b == 95

-- a space or a tab
abbrev pub is_blank : ℕ → Bool
is_blank b = b == 32 || b == 9

-- whether a token is a word
abbrev pub is_word : Token → Bool
is_word (token.Word w) = true
is_word (token.Name n) = true
is_word token.OtherWord = true
is_word t = false

-- whether a token is one of the grammar
abbrev pub is_known : Token → Bool
is_known token.Unknown = false
is_known t = true

-- the word that letters in lower case spell: a reserved one, or else the name of a table, or another
abbrev pub word_token : List ℕ → Token
word_token text = unwrap_or (option_map (λ w. token.Word w) (word_named text)) (if is_table_name text then token.Name text else token.OtherWord)

-- the token that a byte is, if it is neither blank nor a letter nor a digit
abbrev pub mark : ℕ → Token
mark b =
    if b == 60 then token.Less
    else if b == 62 then token.Greater
    else if b == 40 then token.Open
    else if b == 41 then token.Close
    else if b == 44 then token.Comma
    else if b == 59 then token.Semicolon
    else if b == 42 then token.Star
    else if b == 61 then token.Equal
    else if b == 37 then token.Percent
    else if b == 43 then token.Plus
    else if b == 45 then token.Minus
    else token.Unknown

-- a number with one more digit, or one above the greatest number of any text
abbrev pub with_digit : ℕ → ℕ → ℕ
with_digit n b = min (10 * n + (b - 48)) 1000000001

-- what has been read of a token: nothing between tokens, a word so far in lower case, or another token so far
pub data Part : Type 0 where
  gap : Part
  letters : List ℕ → Part
  whole : Token → Part

-- what a byte begins
abbrev pub begun : ℕ → Part
begun b =
    if is_blank b then gap
    else if is_letter b then letters (to_ascii_lowercase b ∷ [])
    else if is_ascii_digit b then whole (token.Digits (b - 48))
    else whole (mark b)

-- the longer token that a byte makes of one
abbrev pub longer_token : Token → ℕ → Option Token
longer_token (token.Digits n) b = if is_ascii_digit b then Some (token.Digits (with_digit n b)) else None
longer_token token.Less b = if b == 62 then Some token.Unequal else if b == 61 then Some token.AtMost else None
longer_token token.Greater b = if b == 61 then Some token.AtLeast else None
longer_token t b = None

-- the longer part that a byte makes of one
abbrev pub longer : Part → ℕ → Option Part
longer gap b = None
longer (letters word) b = if is_letter b then Some (letters (word ++ to_ascii_lowercase b ∷ [])) else None
longer (whole t) b = option_map whole (longer_token t b)

-- the token that a part is, where no byte makes it longer
abbrev pub ended : Part → List Token
ended gap = []
ended (letters word) = word_token word ∷ []
ended (whole t) = t ∷ []

-- the tokens of a part and of the bytes after it
abbrev pub tokens_from : Part → List ℕ → List Token
tokens_from part [] = ended part
tokens_from part (b ∷ bs) = (if is_some (longer part b) then [] else ended part) ++ tokens_from (unwrap_or (longer part b) (begun b)) bs

-- the tokens of a text
abbrev pub tokens : List ℕ → List Token
tokens text = tokens_from gap text
