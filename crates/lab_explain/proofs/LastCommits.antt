-- Who committed last before a place.
use Rattle.std.proofs.Common.{◌≡◌, ◌<◌, ◌≤◌, ◌⊎◌, inl, inr, ℕ, Bool, true, false, cond, ◌&&◌, Option, Some, None, List, [], ◌∷◌, ◌++◌, refl, sym, subst, arith, append_assoc, append-nil}
use Rattle.std.specs.{Prelude.{nat_lt, get_or}, List.{All}}
use Rattle.std.proofs.lemmas.{Bool.Decides.{nat_tests}, List.Elements.{All-nil, All-cons, All-append, Contains-append_left, Contains-push}}
use Rattle.lab_judge.specs.Runs.{Span}
use Rattle.lab_explain.specs.Places.{IsLastBefore, later, last_before}

module _ (place : ℕ) (seen : List Span) (s : Span) where
  -- what is said of all of these is said of one more
  all_more : (P : Span → Type 0) → All P seen → P s → All P (seen ++ s ∷ [])
  all_more P before one = All-append P seen (s ∷ []) before (All-cons P s [] one (All-nil P))

  -- none had committed so far
  first : (v : Bool) → nat_lt s.commit place ≡ v → IsLastBefore place seen None → IsLastBefore place (seen ++ s ∷ []) (cond v (Some s) None)
  first true is none =
      let before : s.commit < place = grind (arith, nat_tests, is) in
      (Contains-push seen s, before, all_more (λ t. (place ≤ t.commit) ⊎ (t.commit ≤ s.commit)) (λ k d lt. inl (none k d lt)) (inr (omega arith)))
  first false isnt none = let behind : place ≤ s.commit = grind (arith, nat_tests, isnt) in all_more (λ t. place ≤ t.commit) none behind

  module _ (found : Span) (last : IsLastBefore place seen (Some found)) where
    -- the one so far stays the last
    stays : (place ≤ s.commit) ⊎ (s.commit ≤ found.commit) → IsLastBefore place (seen ++ s ∷ []) (Some found)
    stays one = (Contains-append_left seen (s ∷ []) found last.0, last.1, all_more (λ t. (place ≤ t.commit) ⊎ (t.commit ≤ found.commit)) last.2 one)

    -- what isn't behind the one so far isn't behind a later one
    still : found.commit < s.commit → (t : Span) → (place ≤ t.commit) ⊎ (t.commit ≤ found.commit) → (place ≤ t.commit) ⊎ (t.commit ≤ s.commit)
    still more t (inl behind) = inl behind
    still more t (inr before) = inr (omega (arith, before, more))

    -- a later one is the last
    next : s.commit < place → found.commit < s.commit → IsLastBefore place (seen ++ s ∷ []) (Some s)
    next before more =
        (Contains-push seen s, before, all_more (λ t. (place ≤ t.commit) ⊎ (t.commit ≤ s.commit)) (λ k d lt. still more (get_or seen k d) (last.2 k d lt)) (inr (omega arith)))

    chosen : (v w : Bool) → nat_lt s.commit place ≡ v → nat_lt found.commit s.commit ≡ w → IsLastBefore place (seen ++ s ∷ []) (cond (v && w) (Some s) (Some found))
    chosen true true is more = next (grind (arith, nat_tests, is)) (grind (arith, nat_tests, more))
    chosen true false is less = stays (inr (grind (arith, nat_tests, less)))
    chosen false w isnt more = stays (inl (grind (arith, nat_tests, isnt)))

  -- with one transaction more
  one_more : (found : Option Span) → IsLastBefore place seen found → IsLastBefore place (seen ++ s ∷ []) (later place s found)
  one_more None none = first (nat_lt s.commit place) refl none
  one_more (Some found) last = chosen found last (nat_lt s.commit place) (nat_lt found.commit s.commit) refl refl

-- with all that are left
all_left : (place : ℕ) (seen left : List Span) (found : Option Span) → IsLastBefore place seen found → IsLastBefore place (seen ++ left) (last_before place found left)
all_left place seen [] found last = subst (λ all. IsLastBefore place all found) (sym (append-nil seen)) last
all_left place seen (s ∷ left) found last =
    subst (λ all. IsLastBefore place all (last_before place (later place s found) left)) (append_assoc seen (s ∷ []) left)
    (all_left place (seen ++ s ∷ []) left (later place s found) (one_more place seen s found last))

pub is_last : (place : ℕ) (spans : List Span) → IsLastBefore place spans (last_before place None spans)
is_last place spans = all_left place [] spans None (All-nil (λ s. place ≤ s.commit))
