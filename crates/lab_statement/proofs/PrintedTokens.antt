-- The printed form of a predicate is in the grammar.
use Rattle.lab_statement.proofs.{Common.{ℕ, zero, suc, ◌≤◌, Bool, true, false, List, [], ◌∷◌, ◌++◌, arith, ◌||◌, Predicate, Token, is_and, is_or, deeper, depth_of, Kind, P, A, N, IsPred, col_token, cmp_token, PredInRange}, PrintedNumbers.{number_tokens, number_fits, list_tokens, list_fits}}
use Rattle.lab_table.specs.Predicate as predicate
use Rattle.lab_table.specs.declared.word.Word.TheVariants as word
use Rattle.lab_statement.specs.declared.token.Token.TheVariants as token
use Rattle.lab_statement.specs.Grammar as grammar

-- tokens, in parentheses where the test is true
abbrev pub wrapped : Bool → List Token → List Token
wrapped true ts = token.Open ∷ ts ++ token.Close ∷ []
wrapped false ts = ts

-- the tokens of a printed predicate
abbrev pub pred_tokens : Predicate → List Token
pred_tokens (predicate.Compare c m z) = col_token c ∷ cmp_token m ∷ number_tokens z
pred_tokens (predicate.Remainder c m r) = col_token c ∷ token.Percent ∷ token.Digits m ∷ token.Equal ∷ number_tokens r
pred_tokens (predicate.OneOf c zs) = col_token c ∷ token.Word word.In ∷ token.Open ∷ list_tokens zs ++ token.Close ∷ []
pred_tokens (predicate.Not p) = token.Word word.Not ∷ wrapped (is_and p || is_or p) (pred_tokens p)
pred_tokens (predicate.And p q) = wrapped (is_or p) (pred_tokens p) ++ token.Word word.And ∷ wrapped (is_and q || is_or q) (pred_tokens q)
pred_tokens (predicate.Or p q) = pred_tokens p ++ token.Word word.Or ∷ wrapped (is_or q) (pred_tokens q)

-- the kind that a predicate's printed form has
abbrev kind_of : Predicate → Kind
kind_of (predicate.And p q) = A
kind_of (predicate.Or p q) = P
kind_of p = N

any_kind : {d : ℕ} {ts : List Token} (p q : Predicate) → IsPred d (kind_of q) ts p → IsPred d P ts p
any_kind p (predicate.And q r) h = grammar.one_member h
any_kind p (predicate.Or q r) h = h
any_kind p q h = grammar.one_member (grammar.one_factor h)

inside : (d k : ℕ) (ts : List Token) (p : Predicate) → ((e : ℕ) → k ≤ e → IsPred e P ts p) → suc k ≤ d → IsPred d N (token.Open ∷ ts ++ token.Close ∷ []) p
inside zero k ts p h le = absurd (omega arith)
inside (suc d) k ts p h le = grammar.parenthesized (h d (omega arith))

abbrev Good : Predicate → Type 0
Good p = (d : ℕ) → depth_of p ≤ d → IsPred d (kind_of p) (pred_tokens p) p

as_conj : (d : ℕ) (p : Predicate) → Good p → deeper (is_or p) (depth_of p) ≤ d → IsPred d A (wrapped (is_or p) (pred_tokens p)) p
as_conj d (predicate.And p q) h le = h d le
as_conj d (predicate.Or p q) h le = grammar.one_factor (inside d (depth_of (predicate.Or p q)) (pred_tokens (predicate.Or p q)) (predicate.Or p q) h le)
as_conj d p h le = grammar.one_factor (h d le)

as_term : (d : ℕ) (p : Predicate) → Good p → deeper (is_and p || is_or p) (depth_of p) ≤ d → IsPred d N (wrapped (is_and p || is_or p) (pred_tokens p)) p
as_term d (predicate.And p q) h le = inside d (depth_of (predicate.And p q)) (pred_tokens (predicate.And p q)) (predicate.And p q) (λ e l. grammar.one_member (h e l)) le
as_term d (predicate.Or p q) h le = inside d (depth_of (predicate.Or p q)) (pred_tokens (predicate.Or p q)) (predicate.Or p q) h le
as_term d p h le = h d le

negated : (d : ℕ) (p : Predicate) → Good p → suc (deeper (is_and p || is_or p) (depth_of p)) ≤ d
    → IsPred d N (token.Word word.Not ∷ wrapped (is_and p || is_or p) (pred_tokens p)) (predicate.Not p)
negated zero p h le = absurd (omega arith)
negated (suc d) p h le = grammar.negation (as_term d p h (omega arith))

good : (p : Predicate) → PredInRange p → Good p
good (predicate.Compare c m z) h d le = grammar.atom (grammar.compare c m (number_fits z h))
good (predicate.Remainder c m r) h d le = grammar.atom (grammar.remainder c (grammar.positive m (omega arith)) h.0.0 h.0.1 (number_fits r h.1))
good (predicate.OneOf c zs) h d le = grammar.atom (grammar.one_of c (list_fits zs h))
good (predicate.Not p) h d le = negated d p (good p h) le
good (predicate.And p q) h d le = grammar.conjunction (as_conj d p (good p h.0) (omega arith)) (as_term d q (good q h.1) (omega arith))
good (predicate.Or p q) h d le = grammar.disjunction (any_kind p p (good p h.0 d (omega arith))) (as_conj d q (good q h.1) (omega arith))

-- the tokens of a printed predicate are in the grammar
pub pred_fits : (p : Predicate) → PredInRange p → depth_of p ≤ 16 → IsPred 16 P (pred_tokens p) p
pred_fits p h le = any_kind p p (good p h 16 le)
