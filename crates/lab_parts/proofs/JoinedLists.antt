-- Lists of numbers, those of one below a bound, and behind them those of another, moved above it.
use Rattle.std.{proofs.{Common.{◌≡◌, ℕ, zero, suc, ◌+◌, ◌<◌, cond, Option, Some, List, [], ◌∷◌, ◌++◌, map, length, ◌⊎◌, inl, inr, refl, sym, ap, ◌∙◌, arith}, lemmas.{Bool.{ne_eqb}, Option.{none-some, slice_get-map}}}, specs.{Prelude.{slice_get, option_map}, List.{last_or}}}
use Rattle.lab_table.proofs.Tests.{mapped_some}
use Rattle.lab_parts.proofs.JoinedTxns.{same_behind}
use Rattle.lab_deps.proofs.Places.{times}
use Rattle.lab_judge.proofs.CountedNumbers.{times-append}

-- what stands in a list stands at the same place before another
pub at_left : {A : Type 0} (xs ys : List A) (p : ℕ) (x : A) → slice_get xs p ≡ Some x → slice_get (xs ++ ys) p ≡ Some x
at_left [] ys p x h = absurd (none-some x h)
at_left (y ∷ xs) ys zero x h = h
at_left (y ∷ xs) ys (suc p) x h = at_left xs ys p x h

-- what stands behind a list is as many places later as it has elements
pub at_right : {A : Type 0} (xs ys : List A) (p q : ℕ) → p ≡ length xs + q → slice_get (xs ++ ys) p ≡ slice_get ys q
at_right [] ys p q e = ap (slice_get ys) (omega (arith, e))
at_right (x ∷ xs) ys zero q e = absurd (omega arith)
at_right (x ∷ xs) ys (suc p) q e = at_right xs ys p q (omega arith)

-- what stands in both stands in one of them
pub at_either : {A : Type 0} (xs ys : List A) (p : ℕ) (x : A) → slice_get (xs ++ ys) p ≡ Some x → (slice_get xs p ≡ Some x) ⊎ ((q : ℕ) × (p ≡ length xs + q) × (slice_get ys q ≡ Some x))
at_either [] ys p x h = inr (p, omega arith, h)
at_either (y ∷ xs) ys zero x h = inl h
at_either (y ∷ xs) ys (suc p) x h =
    elim (at_either xs ys p x h) [
      | inl a ↦ inl a
      | inr w ↦ inr (w.0, omega (arith, w.1), w.2)
    ]

-- the last of a list, and its place
pub last_of : (xs : List ℕ) (o : Option ℕ) → ((xs ≡ []) × (last_or o xs ≡ o)) ⊎ ((p n : ℕ) × (length xs ≡ suc p) × (slice_get xs p ≡ Some n) × (last_or o xs ≡ Some n))
last_of [] o = inl (refl, refl)
last_of (x ∷ xs) o =
    elim (last_of xs (Some x)) [
      | inl w ↦ inr (0, x, ap (λ ys. suc (length ys)) w.0, refl, w.1)
      | inr w ↦ inr (suc w.0, w.1, ap (λ m. suc m) w.2, w.3, w.4)
    ]

-- no element of a list is at or above a bound
abbrev pub IsBelow : ℕ → List ℕ → Type 0
IsBelow k xs = (p n : ℕ) → slice_get xs p ≡ Some n → n < k

pub below_rest : (k x : ℕ) (xs : List ℕ) → IsBelow k (x ∷ xs) → IsBelow k xs
below_rest k x xs below p n h = below (suc p) n h

module _ (k : ℕ) where
  abbrev pub up : ℕ → ℕ
  up n = k + n

  -- a moved element stands where it did
  pub at_moved : (ys : List ℕ) (q n : ℕ) → slice_get ys q ≡ Some n → slice_get (map up ys) q ≡ Some (k + n)
  at_moved ys q n h = slice_get-map up ys q ∙ ap (option_map up) h

  pub moved_at : (ys : List ℕ) (q m : ℕ) → slice_get (map up ys) q ≡ Some m → (n : ℕ) × (slice_get ys q ≡ Some n) × (k + n ≡ m)
  moved_at ys q m h = mapped_some up (slice_get ys q) m (sym (slice_get-map up ys q) ∙ h)

  -- a number below the bound stands in the first list
  pub low_at : (xs ys : List ℕ) (p n : ℕ) → slice_get (xs ++ map up ys) p ≡ Some n → n < k → slice_get xs p ≡ Some n
  low_at xs ys p n h low =
      elim (at_either xs (map up ys) p n h) [
        | inl a ↦ a
        | inr w ↦ let v = moved_at ys w.0 n w.2 in absurd (omega (arith, v.2, low))
      ]

  -- a moved number stands behind the first list
  pub high_at : (xs ys : List ℕ) (p n : ℕ) → IsBelow k xs → slice_get (xs ++ map up ys) p ≡ Some (k + n) → (q : ℕ) × (p ≡ length xs + q) × (slice_get ys q ≡ Some n)
  high_at xs ys p n below h =
      elim (at_either xs (map up ys) p (k + n) h) [
        | inl a ↦ let low : k + n < k = below p (k + n) a in absurd (omega arith)
        | inr w ↦ let v = moved_at ys w.0 (k + n) w.2 in (w.0, w.1, v.1 ∙ ap Some (omega (arith, v.2)))
      ]

  pub times_low : (n : ℕ) (ys : List ℕ) → n < k → times n (map up ys) ≡ 0
  times_low n [] low = refl
  times_low n (y ∷ ys) low = ap (λ b. cond b (1 + times n (map up ys)) (times n (map up ys))) (ne_eqb (k + y) n (omega (arith, low))) ∙ times_low n ys low

  pub times_moved : (n : ℕ) (ys : List ℕ) → times (k + n) (map up ys) ≡ times n ys
  times_moved n [] = refl
  times_moved n (y ∷ ys) = (λ i. cond (same_behind k y n i) (1 + times_moved n ys i) (times_moved n ys i))

  pub times_above : (n : ℕ) (xs : List ℕ) → IsBelow k xs → times (k + n) xs ≡ 0
  times_above n [] below = refl
  times_above n (x ∷ xs) below =
      let low : x < k = below 0 x refl in
      ap (λ b. cond b (1 + times (k + n) xs) (times (k + n) xs)) (ne_eqb x (k + n) (omega (arith, low))) ∙ times_above n xs (below_rest k x xs below)

  -- how often a number stands in both
  pub times_joined_low : (n : ℕ) (xs ys : List ℕ) → n < k → times n (xs ++ map up ys) ≡ times n xs
  times_joined_low n xs ys low = omega (arith, times-append n xs (map up ys), times_low n ys low)

  pub times_joined_high : (n : ℕ) (xs ys : List ℕ) → IsBelow k xs → times (k + n) (xs ++ map up ys) ≡ times n ys
  times_joined_high n xs ys below = omega (arith, times-append (k + n) xs (map up ys), times_above n xs below, times_moved n ys)
