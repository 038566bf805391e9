-- A text without a token has nothing but blanks.
use Rattle.lab_statement.proofs.Common.{◌≡◌, ℕ, Bool, true, false, cond, List, [], ◌∷◌, ◌++◌, Option, Some, None, refl, sym, ap, ◌∙◌, inl, inr, ◌↔◌, list_all, is_some, option_map, unwrap_or, and_from, and_parts, cases_Bool, to_ascii_lowercase, is_ascii_digit, Token, Part, letters, whole, is_letter, is_blank, begun, ended, longer, longer_token, tokens, tokens_from}
use Rattle.lab_statement.specs.Token.{gap}

-- a byte makes no token of one into what stands between tokens
never_gap : (part : Part) (b : ℕ) → longer part b ≡ Some gap → ⊥
never_gap gap b e = absurd cc
never_gap (letters word) b e = elim (is_letter b) as (λ v. cond v (Some (letters (word ++ to_ascii_lowercase b ∷ []))) None ≡ Some gap → ⊥) [ true ↦ λ is. absurd cc | false ↦ λ is. absurd cc ] e
never_gap (whole t) b e = elim (longer_token t b) as (λ o. option_map whole o ≡ Some gap → ⊥) [ None ↦ λ is. absurd cc | Some u ↦ λ is. absurd cc ] e

-- what is more than a gap is a token
some_token : (part : Part) (bs : List ℕ) → (part ≡ gap → ⊥) → tokens_from part bs ≡ [] → ⊥
some_token gap bs some e = some refl
some_token (letters word) [] some e = absurd cc
some_token (whole t) [] some e = absurd cc
some_token part (b ∷ bs) some e = at part some (λ more is. some_token more bs is) (longer part b) refl e
  where
    at : (part : Part) → (part ≡ gap → ⊥) → ((more : Part) → (more ≡ gap → ⊥) → tokens_from more bs ≡ [] → ⊥) → (o : Option Part) → longer part b ≡ o → cond (is_some o) [] (ended part) ++ tokens_from (unwrap_or o (begun b)) bs ≡ [] → ⊥
    at gap some on o is e = some refl
    at (letters word) some on None is e = absurd cc
    at (whole t) some on None is e = absurd cc
    at part some on (Some more) is e = on more (λ none. never_gap part b (is ∙ ap (λ (p : Part). Some p) none)) e

begins_some : (b : ℕ) → is_blank b ≡ false → begun b ≡ gap → ⊥
begins_some b isnt e = at (is_blank b) (is_letter b) (is_ascii_digit b) _ _ _ isnt e
  where
    at : (u v w : Bool) (word : List ℕ) (t s : Token) → u ≡ false → cond u gap (cond v (letters word) (cond w (whole t) (whole s))) ≡ gap → ⊥
    at true v w word t s isnt e = absurd cc
    at false true w word t s isnt e = absurd cc
    at false false true word t s isnt e = absurd cc
    at false false false word t s isnt e = absurd cc

gap_on : (b : ℕ) (bs : List ℕ) → is_blank b ≡ true → tokens (b ∷ bs) ≡ tokens bs
gap_on b bs is = rw is refl

-- a text has no token exactly where it is blank
pub blank_text : (text : List ℕ) → (tokens text ≡ []) ↔ (list_all is_blank text ≡ true)
blank_text [] = (λ none. refl, λ all. refl)
blank_text (b ∷ bs) = (
  λ none. elim (cases_Bool (is_blank b)) [
    | inl is ↦ and_from (is_blank b) (list_all is_blank bs) is ((blank_text bs).0 (sym (gap_on b bs is) ∙ none))
    | inr isnt ↦ absurd (some_token (begun b) bs (begins_some b isnt) none)
  ],
  λ all. let parts = and_parts (is_blank b) (list_all is_blank bs) all in gap_on b bs parts.0 ∙ (blank_text bs).1 parts.1,
)
