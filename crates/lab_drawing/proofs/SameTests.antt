-- Tests that are one.
use Rattle.std.{proofs.{Common.{◌≡◌, ℕ, ◌+◌, ◌<◌, ◌==◌, Bool, true, false, ◌&&◌, ◌||◌, refl, sym, ◌∙◌, arith, inl, inr}, lemmas.{Bool.{true≢false, or_cases, eqb-true, eq-eqb, ltb-true, lt-ltb}}}, specs.Prelude.{nat_lt}}

-- tests that follow from each other are one
pub same_test : (p q : Bool) → (p ≡ true → q ≡ true) → (q ≡ true → p ≡ true) → p ≡ q
same_test true true there back = refl
same_test true false there back = sym (there refl)
same_test false true there back = back refl
same_test false false there back = refl

-- no number is below 0
pub none_below : (a : ℕ) → nat_lt a 0 ≡ false
none_below a = at (nat_lt a 0) refl
  where
    at : (t : Bool) → nat_lt a 0 ≡ t → t ≡ false
    at false is = refl
    at true is = let lt : a < 0 = ltb-true a 0 is in absurd (omega (arith, lt))

-- both aren't, where the second isn't
pub false_of : (p q : Bool) → q ≡ false → (p && q) ≡ false
false_of false q is = refl
false_of true q is = is

-- the numbers below the next one are those below this one, and it
pub up_to : (k a : ℕ) → (k == a || nat_lt a k) ≡ nat_lt a (k + 1)
up_to k a = same_test (k == a || nat_lt a k) (nat_lt a (k + 1)) there back
  where
    below : (a k : ℕ) → a < k → a < k + 1
    below a k lt = omega (arith, lt)

    last : (a k : ℕ) → k ≡ a → a < k + 1
    last a k same = omega (arith, same)

    under : (a k : ℕ) → a < k + 1 → (k ≡ a → ⊥) → a < k
    under a k lt other = omega (arith, lt, other)

    there : (k == a || nat_lt a k) ≡ true → nat_lt a (k + 1) ≡ true
    there is = elim (or_cases (k == a) (nat_lt a k) is) [ inl same ↦ lt-ltb a (k + 1) (last a k (eqb-true k a same)) | inr less ↦ lt-ltb a (k + 1) (below a k (ltb-true a k less)) ]

    back_at : (t : Bool) → (k == a) ≡ t → nat_lt a (k + 1) ≡ true → (t || nat_lt a k) ≡ true
    back_at true is lt = refl
    back_at false is lt = lt-ltb a k (under a k (ltb-true a (k + 1) lt) (λ same. true≢false (sym (eq-eqb k a same) ∙ is)))

    back : nat_lt a (k + 1) ≡ true → (k == a || nat_lt a k) ≡ true
    back lt = back_at (k == a) refl lt
