-- Predicates of the grammar are read.
use Rattle.lab_statement.proofs.Common.{◌≡◌, ℕ, zero, suc, List, [], ◌∷◌, ◌++◌, Option, None, refl, ap, ◌∙◌, append_assoc, arith, Predicate, Token, Kind, P, A, N, IsAtom, IsPred, IsWhere, col_token, after, Reads, term_read, conj_read, pred_read, where_read, Reading, atom_read, Col}
use Rattle.lab_table.specs.Predicate as predicate
use Rattle.lab_table.specs.declared.predicate.Col.TheVariants as col
use Rattle.lab_table.specs.declared.word.Word.TheVariants as word
use Rattle.lab_statement.specs.declared.token.Token.TheVariants as token
use Rattle.lab_statement.specs.Grammar as grammar
use Rattle.lab_statement.proofs.AtomParts.{shorter, atom_again}
use Rattle.lab_statement.proofs.StoppedLoops.{ReadsOn, starts, goes_on, ends}

-- what reading gives in front of a rest: the value at once, or a value with which the loop goes on
abbrev Again : ℕ → Kind → List Token → Predicate → Type 0
Again d N ts p = (rest : List Token) → term_read d (ts ++ rest) ≡ Reads (p, rest)
Again d A ts p = (rest : List Token) → ReadsOn (term_read d) (token.Word word.And) predicate.And p rest (conj_read d (ts ++ rest))
Again d P ts p = (rest : List Token) → after (token.Word word.And) rest ≡ None → ReadsOn (conj_read d) (token.Word word.Or) predicate.Or p rest (pred_read d (ts ++ rest))

-- what begins with a column is read as an atom
column_term : (d : ℕ) (c : Col) (ts : List Token) {r : Reading (Predicate × List Token)} → atom_read (col_token c ∷ ts) ≡ r → term_read d (col_token c ∷ ts) ≡ r
unfolding term_read
column_term zero col.Id ts is = is
column_term zero col.Value ts is = is
column_term (suc d) col.Id ts is = is
column_term (suc d) col.Value ts is = is

atom_term : (d : ℕ) {ts : List Token} {p : Predicate} → IsAtom ts p → (rest : List Token) → term_read d (ts ++ rest) ≡ Reads (p, rest)
atom_term d (grammar.compare c m h) rest = column_term d c _ (atom_again (grammar.compare c m h) rest)
atom_term d (grammar.one_of c h) rest = column_term d c _ (atom_again (grammar.one_of c h) rest)
atom_term d (grammar.remainder c h low high i) rest = column_term d c _ (atom_again (grammar.remainder c h low high i) rest)

again : {d : ℕ} {kind : Kind} {ts : List Token} {p : Predicate} → IsPred d kind ts p → Again d kind ts p
unfolding term_read conj_read pred_read
again (grammar.atom {d} h) = atom_term d h
again (grammar.negation h) = λ rest. rw (again h rest) refl
again (grammar.parenthesized {d} {ts} {p} h) = λ rest.
    ap (term_read (suc d)) (ap (λ (x : List Token). token.Open ∷ x) (append_assoc ts (token.Close ∷ []) rest))
    ∙ rw (ends (again h (token.Close ∷ rest) refl) refl) refl
again (grammar.one_factor {d} {ts} {p} h) = λ rest. starts (λ p. p) (term_read d) (token.Word word.And) predicate.And (again h rest)
again (grammar.conjunction {d} {ts} {rest = others} {p} {q} hp hq) = λ rest.
    rw (append_assoc ts (token.Word word.And ∷ others) rest) (goes_on (again hp (token.Word word.And ∷ others ++ rest)) refl (omega arith) (again hq rest) (shorter others rest) refl)
again (grammar.one_member {d} {ts} {p} h) = λ rest none. starts (λ p. p) (conj_read d) (token.Word word.Or) predicate.Or (ends (again h rest) none)
again (grammar.disjunction {d} {ts} {rest = others} {p} {q} hp hq) = λ rest none.
    rw (append_assoc ts (token.Word word.Or ∷ others) rest)
    (goes_on (again hp (token.Word word.Or ∷ others ++ rest) refl) refl (omega arith) (ends (again hq rest) none) (shorter others rest) refl)

-- what may stand behind a statement
abbrev pub IsUnjoined : List Token → Type 0
IsUnjoined rest = (after (token.Word word.And) rest ≡ None) × (after (token.Word word.Or) rest ≡ None) × (after (token.Word word.Where) rest ≡ None)

-- nothing, or a where and a predicate of the grammar, is read
pub where_again : {ts : List Token} {p : Option Predicate} → IsWhere ts p → (rest : List Token) → IsUnjoined rest → where_read (ts ++ rest) ≡ Reads (p, rest)
unfolding where_read
where_again grammar.without rest none = rw (where_read, none.2) refl
where_again (grammar.where_pred h) rest none = rw (ends (again h rest none.0) none.1) refl
