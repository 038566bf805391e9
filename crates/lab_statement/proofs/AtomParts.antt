-- Atoms of the grammar are read, part after part.
use Rattle.lab_statement.proofs.Common.{◌≡◌, ◌≤◌, List, [], ◌∷◌, ◌++◌, length, None, refl, ap, ◌∙◌, append_assoc, length-append, arith, ℤ, Col, Cmp, Token, IsNumber, IsNumberList, col_token, cmp_token, IsAtom, ◌>>=◌, after, Reading, Reads, number_read, col_read, cmp_read, one_more, numbers_read, number_list_read, compare_read, remainder_read, one_of_read, atom_read, Predicate}
use Rattle.lab_table.specs.Predicate as predicate
use Rattle.lab_table.specs.declared.predicate.Col.TheVariants as col
use Rattle.lab_table.specs.declared.predicate.Cmp.TheVariants as cmp
use Rattle.lab_statement.specs.declared.token.Token.TheVariants as token
use Rattle.lab_statement.specs.Grammar as grammar
use Rattle.lab_statement.proofs.Numbers.{IsNumbers, list_are}
use Rattle.lab_statement.proofs.Numbers as numbers
use Rattle.lab_statement.proofs.Readings.{reads}
use Rattle.lab_statement.proofs.ReadNumbers.{number_again, positive_again}
use Rattle.lab_statement.proofs.StoppedLoops.{ReadsOn, starts, goes_on, ends}
use Rattle.lab_table.specs.declared.word.Word.TheVariants as word

-- a column

pub col_again : (c : Col) (rest : List Token) → col_read (col_token c ∷ rest) ≡ Reads (c, rest)
unfolding col_read
col_again col.Id rest = refl
col_again col.Value rest = refl

-- a comparison

compare_again : (c : Col) (m : Cmp) (rest : List Token) → atom_read (col_token c ∷ cmp_token m ∷ rest) ≡ (number_read rest >>= λ n. Reads (predicate.Compare c m n.0, n.1))
unfolding atom_read compare_read cmp_read col_read
compare_again col.Id cmp.Eq rest = refl
compare_again col.Id m rest = refl
compare_again col.Value cmp.Eq rest = refl
compare_again col.Value m rest = refl

-- numbers

pub shorter : (a b : List Token) → length b ≤ length (a ++ b)
shorter a b = grind (arith, length-append)

-- numbers of the grammar are read by the loop, behind those before them
numbers_on : {ts : List Token} {zs : List ℤ} → IsNumbers ts zs → (rest : List Token) → after token.Comma rest ≡ None → (before : List ℤ) {whole : Reading (List ℤ × List Token)}
    → ReadsOn number_read token.Comma one_more before (token.Comma ∷ (ts ++ rest)) whole → whole ≡ Reads (before ++ zs, rest)
numbers_on (numbers.one {ts} {z} h) rest none before so_far = ends (goes_on so_far refl (omega arith) (number_again h rest) (shorter ts rest) refl) none
numbers_on (numbers.others {ts} {rest = others} {z} {zs} h hs) rest none before so_far =
    let here = append_assoc ts (token.Comma ∷ others) rest in
    numbers_on hs rest none (before ++ z ∷ [])
    (goes_on so_far refl (omega arith) (rw here (number_again h (token.Comma ∷ others ++ rest))) (rw here (shorter ts (token.Comma ∷ others ++ rest))) refl)
    ∙ ap (λ (all : List ℤ). reads (all, rest)) (append_assoc before (z ∷ []) zs)

-- numbers of the grammar are read
pub numbers_again : {ts : List Token} {zs : List ℤ} → IsNumbers ts zs → (rest : List Token) → after token.Comma rest ≡ None → numbers_read (ts ++ rest) ≡ Reads (zs, rest)
unfolding numbers_read
numbers_again (numbers.one h) rest none = ends (starts (λ z. z ∷ []) number_read token.Comma one_more (number_again h rest)) none
numbers_again (numbers.others {ts} {rest = others} {z} h hs) rest none =
    rw (append_assoc ts (token.Comma ∷ others) rest) (numbers_on hs rest none (z ∷ []) (starts (λ y. y ∷ []) number_read token.Comma one_more (number_again h (token.Comma ∷ others ++ rest))))

-- a list of numbers

-- a number doesn't begin with a parenthesis
pub no_close : {ts : List Token} {z : ℤ} → IsNumber ts z → (rest : List Token) → after token.Close (ts ++ rest) ≡ None
no_close (grammar.positive n le) rest = refl
no_close (grammar.negative n le) rest = refl

unclosed : {ts : List Token} {zs : List ℤ} → IsNumbers ts zs → (rest : List Token) → after token.Close (ts ++ rest) ≡ None
unclosed (numbers.one h) rest = no_close h rest
unclosed (numbers.others {ts} {rest = others} h hs) rest = ap (after token.Close) (append_assoc ts (token.Comma ∷ others) rest) ∙ no_close h (token.Comma ∷ others ++ rest)

closed_again : {ts : List Token} {zs : List ℤ} → IsNumbers ts zs → (rest : List Token) → number_list_read (token.Open ∷ (ts ++ token.Close ∷ rest)) ≡ Reads (zs, rest)
unfolding number_list_read
closed_again h rest = rw (unclosed h (token.Close ∷ rest), numbers_again h (token.Close ∷ rest) refl) refl

pub number_list_again : {ts : List Token} {zs : List ℤ} → IsNumberList ts zs → (rest : List Token) → number_list_read (token.Open ∷ (ts ++ token.Close ∷ rest)) ≡ Reads (zs, rest)
unfolding number_list_read
number_list_again grammar.none rest = refl
number_list_again (grammar.last h) rest = closed_again (numbers.one h) rest
number_list_again (grammar.more h hs) rest = closed_again (numbers.others h (list_are hs)) rest

-- a whole atom

-- an atom of the grammar is read, whatever follows it
pub atom_again : {ts : List Token} {p : Predicate} → IsAtom ts p → (rest : List Token) → atom_read (ts ++ rest) ≡ Reads (p, rest)
unfolding atom_read compare_read remainder_read one_of_read
atom_again (grammar.compare {ts} c m h) rest = rw (compare_again c m (ts ++ rest), number_again h rest) refl
atom_again (grammar.one_of {ts} c h) rest =
    rw (append_assoc ts (token.Close ∷ []) rest, col_again c (token.Word word.In ∷ token.Open ∷ (ts ++ token.Close ∷ rest)), number_list_again h rest) refl
atom_again (grammar.remainder {ms} {rs} c hm low high hr) rest =
    rw (append_assoc ms (token.Equal ∷ rs) rest, col_again c (token.Percent ∷ (ms ++ (token.Equal ∷ rs ++ rest))), positive_again 1000000 _ hm low high (token.Equal ∷ rs ++ rest), number_again hr rest) refl
