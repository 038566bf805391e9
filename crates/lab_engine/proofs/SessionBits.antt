-- Bits of a set of sessions.
use Rattle.std.{specs.Int.{bit_at, trailing_zeros, w16, Bits.{mask_lt}}, proofs.lemmas.Nat.Bits.{bit_at_and, bit_at_or, bit_at-lt, bit_at-zero, bit_at_set_same, bit_at_set_other, shr_and_one, bit_at-trailing_zeros, bit_at_ones, same_from_bits}}
use Rattle.lab_engine.proofs.Common.{ap, AreSessions, arith, bit_and, bit_or, both_ways, cases_eq, cases_lt, eq-eqb, eqb-true, false, has, IfSome, inl, inr, IsSome, IsTrue, min, ne_eqb, None, Option, or_cases, refl, Some, subst, sym, true, ℕ, ◌%◌, ◌&&◌, ◌*◌, ◌-◌, ◌/◌, ◌<◌, ◌==◌, ◌^◌, ◌||◌, ◌↔◌, ◌∙◌, ◌≡◌, ◌≤◌}

-- the set of nobody
pub has_nobody : (n : ℕ) → has 0 n ≡ false
unfolding has
has_nobody n = ap (λ b. b == 1) (bit_at-zero n)

-- what two sets have in common
pub has_common : (a b n : ℕ) → has (bit_and a b) n ≡ (has a n && has b n)
unfolding has
has_common a b n = ap (λ x. x == 1) (bit_at_and a b n) ∙ grind (arith, bit_at-lt a n, bit_at-lt b n)

-- what is in one of two sets
pub has_either : (a b n : ℕ) → has (bit_or a b) n ≡ (has a n || has b n)
unfolding has
has_either a b n = ap (λ x. x == 1) (bit_at_or a b n) ∙ grind (arith, bit_at-lt a n, bit_at-lt b n)

-- what is tested
pub has_tested : (set n : ℕ) → (bit_and (set / 2 ^ n) 1 == 1) ≡ has set n
unfolding has
has_tested set n = ap (λ bit. bit == 1) (shr_and_one set n)

-- a set with one session more
pub has_inserted : (set k n : ℕ) → k < 16 → has (bit_or set (1 * 2 ^ k % 65536)) n ≡ (n == k || has set n)
unfolding has
has_inserted set k n small = elim (cases_eq n k) [
  | inl same ↦ subst (λ m. (bit_at (bit_or set (1 * 2 ^ k % 65536)) m == 1) ≡ (m == k || (bit_at set m == 1))) (sym same)
      (ap (λ b. b == 1) (bit_at_set_same w16 set k small) ∙ sym (ap (λ b. b || (bit_at set k == 1)) (eq-eqb k k refl)))
  | inr apart ↦ ap (λ b. b == 1) (bit_at_set_other w16 set k small n apart) ∙ sym (ap (λ b. b || (bit_at set n == 1)) (ne_eqb n k apart))
]

-- it has only sessions
pub sessions_inserted : (set k : ℕ) → 1 ≤ k → k ≤ 9 → AreSessions set → AreSessions (bit_or set (1 * 2 ^ k % 65536))
sessions_inserted set k low high h n there = elim (or_cases (n == k) (has set n) (sym (has_inserted set k n (omega arith)) ∙ there)) [
  | inl p ↦ let same : n ≡ k = eqb-true n k p in (omega (arith, low, same), omega (arith, high, same))
  | inr p ↦ h n p
]

pub sessions_either : (a b : ℕ) → AreSessions a → AreSessions b → AreSessions (bit_or a b)
sessions_either a b h k n there = elim (or_cases (has a n) (has b n) (sym (has_either a b n) ∙ there)) [
  | inl p ↦ h n p
  | inr p ↦ k n p
]

-- ---- the lowest bit of a set is its least session

module _ (set : ℕ) (h : AreSessions set) where
  above : (i : ℕ) → 16 ≤ i → bit_at set i ≡ 0
  unfolding has
  above i le = let none : (bit_at set i == 1) ≡ true → ⊥ = λ there. omega (arith, le, (h i there).1) in grind (arith, bit_at-lt set i, none)

  masked : (i : ℕ) → min (bit_at set i) (bit_at (2 ^ 16 - 1) i) ≡ bit_at set i
  masked i = elim (cases_lt i 16) [
    | inl inside ↦ ap (min (bit_at set i)) (bit_at_ones 16 i inside) ∙ omega (arith, bit_at-lt set i)
    | inr le ↦ ap (λ b. min b (bit_at (2 ^ 16 - 1) i)) (above i le) ∙ omega arith ∙ sym (above i le)
  ]

  range : set < 65536
  range = subst (λ n. n < 65536) (same_from_bits (bit_and set (2 ^ 16 - 1)) set (λ i. bit_at_and set (2 ^ 16 - 1) i ∙ masked i)) (mask_lt set 16)

  -- where there is one
  lowest : 0 < set → IsTrue (has set (trailing_zeros w16 set)) × ((n : ℕ) → IsTrue (has set n) → trailing_zeros w16 set ≤ n)
  unfolding has
  lowest some = (ap (λ b. b == 1) lowest_bit.1, below)
    where
      lowest_bit : (trailing_zeros w16 set < 16) × (bit_at set (trailing_zeros w16 set) ≡ 1) × ((i : ℕ) → i < trailing_zeros w16 set → bit_at set i ≡ 0)
      lowest_bit = bit_at-trailing_zeros w16 set some range

      below : (n : ℕ) → (bit_at set n == 1) ≡ true → trailing_zeros w16 set ≤ n
      below n there = elim (cases_lt n (trailing_zeros w16 set)) [
        | inl less ↦ absurd (both_ways _ (ap (λ b. b == 1) (lowest_bit.2 n less)) there)
        | inr le ↦ le
      ]

  at_zero : set ≡ 0 → trailing_zeros w16 set ≡ 16
  unfolding lib.Count.count_trailing_zeros
  at_zero none = ap (trailing_zeros w16) none

  some_bit : trailing_zeros w16 set ≤ 9 → 0 < set
  some_bit low = elim (cases_lt 0 set) [
    | inl some ↦ some
    | inr none ↦ absurd (omega (arith, low, at_zero (omega (arith, none))))
  ]

  pub least_some : (found : Option ℕ) → IsSome found ↔ ((1 ≤ trailing_zeros w16 set) × (trailing_zeros w16 set ≤ 9)) → IfSome found (λ s. s ≡ trailing_zeros w16 set)
      → IfSome found (λ s. IsTrue (has set s))
  least_some None some value = tt
  least_some (Some s) some value = subst (λ k. IsTrue (has set k)) (sym value) (lowest (some_bit (some.0 refl).1)).0

  pub least_least : (found : Option ℕ) → IsSome found ↔ ((1 ≤ trailing_zeros w16 set) × (trailing_zeros w16 set ≤ 9)) → IfSome found (λ s. s ≡ trailing_zeros w16 set)
      → IfSome found (λ s. (n : ℕ) → IsTrue (has set n) → s ≤ n)
  least_least None some value = tt
  least_least (Some s) some value = subst (λ k. (n : ℕ) → IsTrue (has set n) → k ≤ n) (sym value) (lowest (some_bit (some.0 refl).1)).1

  pub least_none : (found : Option ℕ) → IsSome found ↔ ((1 ≤ trailing_zeros w16 set) × (trailing_zeros w16 set ≤ 9)) → found ≡ None → (n : ℕ) → has set n ≡ false
  least_none found some none n = elim (cases_lt 0 set) [
    | inl there ↦
        let low = lowest there in
        let is : IsSome found = some.1 (h (trailing_zeros w16 set) low.0) in
        absurd (both_ways _ refl (subst (λ o. IsSome o) none is))
    | inr nothing ↦ ap (λ s. has s n) (omega (arith, nothing)) ∙ has_nobody n
  ]
