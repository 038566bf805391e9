-- Reading tokens from left to right, rule by rule of the grammar: the value read, or the first fault and the tokens
-- from there on.
use Rattle.std.specs.Prelude.{◌≡◌, ℕ, zero, suc, ℤ, pos, ◌-ℤ◌, ◌&&◌, nat_le, length, if◌then◌else◌, List, [], ◌∷◌, ◌++◌, Option, Some, None, Result, Ok, Err}
use Rattle.lab_table.specs.Predicate.{Predicate}
use Rattle.lab_table.specs.Predicate as predicate
use Rattle.lab_table.specs.declared.predicate.Col.{Col}
use Rattle.lab_table.specs.declared.predicate.Col.TheVariants as col
use Rattle.lab_table.specs.declared.predicate.Cmp.{Cmp}
use Rattle.lab_table.specs.declared.predicate.Cmp.TheVariants as cmp
use Rattle.lab_table.specs.declared.word.Word.TheVariants as word
use Rattle.lab_statement.specs.declared.token.Token.{Token}
use Rattle.lab_statement.specs.declared.token.Token.TheVariants as token
use Rattle.lab_statement.specs.declared.fault.ScriptFaultKind.{ScriptFaultKind}
use Rattle.lab_statement.specs.declared.fault.ScriptFaultKind.TheVariants.{UnknownStatement, BadTableName, NumberOutOfRange, TooDeep}
use Rattle.lab_statement.specs.declared.fault.Refusal.{Refusal}
use Rattle.lab_statement.specs.declared.fault.Refusal.TheVariants as refusal
use Rattle.lab_printing.specs.Limits.{max_depth}
use Rattle.lab_statement.specs.Reading.{after}
use Rattle.lab_statement.specs.Token.{is_word}

-- what reading comes to
pub data Reading (X : Type 0) : Type 0 where
  Reads : X → Reading X
  Stops : ScriptFaultKind → List Token → Reading X

-- what is read, if reading doesn't stop
abbrev pub read_value : {X : Type 0} → Reading X → Option X
read_value (Reads x) = Some x
read_value (Stops kind left) = None

-- what is read behind what was read
infixl 10 ◌>>=◌
abbrev pub ◌>>=◌ : {A B : Type 0} → Reading A → (A → Reading B) → Reading B
(Reads x) >>= f = f x
(Stops kind left) >>= f = Stops kind left

-- reading stops for this reason with these tokens left, or memory ran out
abbrev pub StopsAt : {Y : Type 0} → Refusal → List Token → Reading Y → Type 0
StopsAt refusal.NoMemory left read = Unit {0}
StopsAt (refusal.Fault kind) left read = read ≡ Stops kind left

-- what a function returned, seen by view, with these tokens left, is what reading comes to, unless memory ran out
abbrev pub Comes : {X Y : Type 0} → (X → Y) → Result X Refusal → List Token → Reading Y → Type 0
Comes view (Ok x) left read = read ≡ Reads (view x)
Comes view (Err e) left read = StopsAt e left read

-- what follows a token that was found, or else what comes in its place
abbrev pub if_found : {Y : Type 0} → Option (List Token) → (List Token → Y) → Y → Y
if_found (Some rest) found other = found rest
if_found None found other = other

-- a token that must be the first
abbrev pub token_read : Token → List Token → Reading (List Token)
token_read t ts = if_found (after t ts) (λ rest. Reads rest) (Stops UnknownStatement ts)

-- tokens that must be the first
abbrev pub tokens_read : List Token → List Token → Reading (List Token)
tokens_read [] ts = Reads ts
tokens_read (u ∷ us) ts = do
  rest ← token_read u ts
  tokens_read us rest

-- digits
unfoldable pub digits_read : List Token → Reading (ℕ × List Token)
digits_read (token.Digits n ∷ ts) = Reads (n, ts)
digits_read ts = Stops UnknownStatement ts

-- a number without a sign
unfoldable pub magnitude_read : List Token → Reading (ℕ × List Token)
magnitude_read ts = do
  n ← digits_read ts
  if nat_le n.0 1000000000 then Reads n else Stops NumberOutOfRange n.1

-- a number
unfoldable pub number_read : List Token → Reading (ℤ × List Token)
number_read ts = if_found (after token.Minus ts) (λ rest. do
  n ← magnitude_read rest
  Reads (pos 0 -ℤ pos n.0, n.1)) (do
    n ← magnitude_read ts
    Reads (pos n.0, n.1))

-- the members behind the first, each behind its connective, at most k of them
unfoldable pub more_read : {A X : Type 0} → ℕ → (List Token → Reading (X × List Token)) → Token → (A → X → A) → A → List Token → Reading (A × List Token)
more_read zero member connective join a ts = Reads (a, ts)
more_read (suc k) member connective join a ts = if_found (after connective ts) (λ rest. do
  x ← member rest
  more_read k member connective join (join a x.0) x.1) (Reads (a, ts))

-- members with a connective between two of them, of which the first stands for itself and each other one is joined to those before it
unfoldable pub joined_read : {A X : Type 0} → (X → A) → (List Token → Reading (X × List Token)) → Token → (A → X → A) → List Token → Reading (A × List Token)
joined_read first member connective join ts = do
  x ← member ts
  more_read (length x.1) member connective join (first x.0) x.1

-- a number from 1 to this most, which has no sign
unfoldable pub positive_read : ℕ → List Token → Reading (ℕ × List Token)
positive_read most ts = if_found (after token.Minus ts) (λ rest. do
  n ← digits_read rest
  Stops NumberOutOfRange n.1) (do
    n ← digits_read ts
    if nat_le 1 n.0 && nat_le n.0 most then Reads n else Stops NumberOutOfRange n.1)

-- a row's number with its value
unfoldable pub row_read : List Token → Reading ((ℕ × ℤ) × List Token)
row_read ts = do
  a ← token_read token.Open ts
  id ← positive_read 999999 a
  b ← token_read token.Comma id.1
  value ← number_read b
  c ← token_read token.Close value.1
  Reads ((id.0, value.0), c)

-- the token at the front is the name of a table
abbrev pub name_of : Token → List Token → Reading (List ℕ × List Token)
name_of (token.Name n) ts = Reads (n, ts)
name_of t ts = Stops (if is_word t then BadTableName else UnknownStatement) (t ∷ ts)

-- the name of a table
unfoldable pub name_read : List Token → Reading (List ℕ × List Token)
name_read [] = Stops UnknownStatement []
name_read (t ∷ ts) = name_of t ts

-- a column
unfoldable pub col_read : List Token → Reading (Col × List Token)
col_read ts = if_found (after (token.Word word.Id) ts) (λ rest. Reads (col.Id, rest)) (do
  rest ← token_read (token.Word word.Value) ts
  Reads (col.Value, rest))

-- the comparison that a token is
abbrev pub cmp_of : Token → Option Cmp
cmp_of token.Equal = Some cmp.Eq
cmp_of token.Unequal = Some cmp.Ne
cmp_of token.Less = Some cmp.Lt
cmp_of token.AtMost = Some cmp.Le
cmp_of token.Greater = Some cmp.Gt
cmp_of token.AtLeast = Some cmp.Ge
cmp_of t = None

-- the same at the front
abbrev pub cmp_in : Option Cmp → Token → List Token → Reading (Cmp × List Token)
cmp_in (Some m) t ts = Reads (m, ts)
cmp_in None t ts = Stops UnknownStatement (t ∷ ts)

-- a comparison
unfoldable pub cmp_read : List Token → Reading (Cmp × List Token)
cmp_read [] = Stops UnknownStatement []
cmp_read (t ∷ ts) = cmp_in (cmp_of t) t ts

-- a list with one more number
abbrev pub one_more : List ℤ → ℤ → List ℤ
one_more zs z = zs ++ z ∷ []

-- numbers with a comma between two of them
unfoldable pub numbers_read : List Token → Reading (List ℤ × List Token)
numbers_read ts = joined_read (λ z. z ∷ []) number_read token.Comma one_more ts

-- a list of numbers in parentheses
unfoldable pub number_list_read : List Token → Reading (List ℤ × List Token)
number_list_read ts = do
  a ← token_read token.Open ts
  if_found (after token.Close a) (λ rest. Reads ([], rest)) (do
    zs ← numbers_read a
    rest ← token_read token.Close zs.1
    Reads (zs.0, rest))

-- what stands behind the column of a comparison
unfoldable pub compare_read : Col → List Token → Reading (Predicate × List Token)
compare_read c ts = do
  m ← cmp_read ts
  n ← number_read m.1
  Reads (predicate.Compare c m.0 n.0, n.1)

-- what stands behind the percent sign of a remainder
unfoldable pub remainder_read : Col → List Token → Reading (Predicate × List Token)
remainder_read c ts = do
  m ← positive_read 1000000 ts
  rest ← token_read token.Equal m.1
  n ← number_read rest
  Reads (predicate.Remainder c m.0 n.0, n.1)

-- what stands behind the `in` of a list
unfoldable pub one_of_read : Col → List Token → Reading (Predicate × List Token)
one_of_read c ts = do
  zs ← number_list_read ts
  Reads (predicate.OneOf c zs.0, zs.1)

-- a comparison, a remainder or a list
unfoldable pub atom_read : List Token → Reading (Predicate × List Token)
atom_read ts = do
  c ← col_read ts
  if_found (after (token.Word word.In) c.1) (one_of_read c.0) (if_found (after token.Percent c.1) (remainder_read c.0) (compare_read c.0 c.1))

-- a predicate with neither an and nor an or at its top, under which this many parentheses and nots may still be open
unfoldable pub term_read : ℕ → List Token → Reading (Predicate × List Token)
term_read zero ts = if_found (after (token.Word word.Not) ts) (λ rest. Stops TooDeep rest) (if_found (after token.Open ts) (λ rest. Stops TooDeep rest) (atom_read ts))
term_read (suc d) ts = if_found (after (token.Word word.Not) ts) (λ rest. do
  p ← term_read d rest
  Reads (predicate.Not p.0, p.1)) (if_found (after token.Open ts) (λ rest. do
    p ← joined_read (λ p. p) (joined_read (λ p. p) (term_read d) (token.Word word.And) predicate.And) (token.Word word.Or) predicate.Or rest
    behind ← token_read token.Close p.1
    Reads (p.0, behind)) (atom_read ts))

-- a predicate that may have an and at its top
unfoldable pub conj_read : ℕ → List Token → Reading (Predicate × List Token)
conj_read d ts = joined_read (λ p. p) (term_read d) (token.Word word.And) predicate.And ts

-- a predicate that may have an or at its top
unfoldable pub pred_read : ℕ → List Token → Reading (Predicate × List Token)
pred_read d ts = joined_read (λ p. p) (conj_read d) (token.Word word.Or) predicate.Or ts

-- nothing, or where and a predicate
unfoldable pub where_read : List Token → Reading (Option Predicate × List Token)
where_read ts = if_found (after (token.Word word.Where) ts) (λ rest. do
  p ← pred_read max_depth rest
  Reads (Some p.0, p.1)) (Reads (None, ts))
