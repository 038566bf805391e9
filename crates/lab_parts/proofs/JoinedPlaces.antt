-- Places in a list of numbers below a bound, and behind them those of another, moved above it.
use Rattle.std.{proofs.{Common.{◌≡◌, ℕ, suc, ◌+◌, ◌<◌, ◌≤◌, ◌==◌, true, false, cond, Option, Some, None, List, [], ◌∷◌, ◌++◌, map, length, refl, ap, ◌∙◌, arith}, lemmas.Bool.{ne_eqb}}, specs.{Prelude.{slice_get, option_map}, Option.{option_or}}}
use Rattle.lab_history.specs.Version.{place_in}
use Rattle.lab_deps.proofs.Places.{times, at_times, apart_times, placed, stable_nat}
use Rattle.lab_parts.proofs.{JoinedLists.{IsBelow, below_rest, up}, JoinedTxns.{same_behind}}

-- a place counted from the front of a longer list
further : (k : ℕ) (o : Option ℕ) → option_map (λ p. suc p) (option_map (λ p. k + p) o) ≡ option_map (λ p. suc k + p) o
further k None = refl
further k (Some p) = ap Some (omega arith)

from_nothing : (o : Option ℕ) → o ≡ option_map (λ p. 0 + p) o
from_nothing None = refl
from_nothing (Some p) = ap Some (omega arith)

or_further : (o r : Option ℕ) → option_map (λ p. suc p) (option_or o r) ≡ option_or (option_map (λ p. suc p) o) (option_map (λ p. suc p) r)
or_further None r = refl
or_further (Some p) r = refl

or_none : (o : Option ℕ) → option_or o None ≡ o
or_none None = refl
or_none (Some p) = refl

-- the place in two lists: that in the first, or else that in the other behind it
pub place-append : (xs ys : List ℕ) (n : ℕ) → place_in (xs ++ ys) n ≡ option_or (place_in xs n) (option_map (λ p. length xs + p) (place_in ys n))
place-append [] ys n = from_nothing (place_in ys n)
place-append (x ∷ xs) ys n =
    elim (x == n) as (λ b. cond b (Some 1) (option_map (λ p. suc p) (place_in (xs ++ ys) n))
    ≡ option_or (cond b (Some 1) (option_map (λ p. suc p) (place_in xs n))) (option_map (λ p. suc (length xs) + p) (place_in ys n))) [
      | true ↦ refl
      | false ↦ ap (option_map (λ p. suc p)) (place-append xs ys n) ∙ or_further (place_in xs n) (option_map (λ p. length xs + p) (place_in ys n))
          ∙ ap (option_or (option_map (λ p. suc p) (place_in xs n))) (further (length xs) (place_in ys n))
    ]

module _ (k : ℕ) where
  place_low : (n : ℕ) (ys : List ℕ) → n < k → place_in (map (up k) ys) n ≡ None
  place_low n [] low = refl
  place_low n (y ∷ ys) low =
      ap (λ b. cond b (Some 1) (option_map (λ p. suc p) (place_in (map (up k) ys) n))) (ne_eqb (k + y) n (omega (arith, low)))
      ∙ ap (option_map (λ p. suc p)) (place_low n ys low)

  place_moved : (n : ℕ) (ys : List ℕ) → place_in (map (up k) ys) (k + n) ≡ place_in ys n
  place_moved n [] = refl
  place_moved n (y ∷ ys) = λ i. cond (same_behind k y n i) (Some 1) (option_map (λ p. suc p) (place_moved n ys i))

  place_above : (n : ℕ) (xs : List ℕ) → IsBelow k xs → place_in xs (k + n) ≡ None
  place_above n [] below = refl
  place_above n (x ∷ xs) below =
      let low : x < k = below 0 x refl in
      ap (λ b. cond b (Some 1) (option_map (λ p. suc p) (place_in xs (k + n)))) (ne_eqb x (k + n) (omega (arith, low)))
      ∙ ap (option_map (λ p. suc p)) (place_above n xs (below_rest k x xs below))

  -- a number below the bound has the place that it has in the first list
  pub place_joined_low : (n : ℕ) (xs ys : List ℕ) → n < k → place_in (xs ++ map (up k) ys) n ≡ place_in xs n
  place_joined_low n xs ys low =
      place-append xs (map (up k) ys) n ∙ ap (λ o. option_or (place_in xs n) (option_map (λ p. length xs + p) o)) (place_low n ys low) ∙ or_none (place_in xs n)

  -- a moved number has the place that it has in the other, behind the first list
  pub place_joined_high : (n : ℕ) (xs ys : List ℕ) → IsBelow k xs → place_in (xs ++ map (up k) ys) (k + n) ≡ option_map (λ p. length xs + p) (place_in ys n)
  place_joined_high n xs ys below =
      place-append xs (map (up k) ys) (k + n) ∙ ap (λ o. option_or o (option_map (λ p. length xs + p) (place_in (map (up k) ys) (k + n)))) (place_above n xs below)
      ∙ ap (option_map (λ p. length xs + p)) (place_moved n ys)

-- a number that stands once has the place where it stands
pub place_once : (xs : List ℕ) (p n : ℕ) → times n xs ≤ 1 → slice_get xs p ≡ Some n → place_in xs n ≡ Some (suc p)
place_once xs p n once h =
    let w = placed xs n (at_times xs p n h) in
    let same : w.0 ≡ p = stable_nat w.0 p (λ apart. let two : 2 ≤ times n xs = apart_times xs w.0 p n w.2 h apart in absurd (omega arith)) in
    w.1 ∙ ap (λ q. Some (suc q)) same
