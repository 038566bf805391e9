-- The heavier of several values.
use Rattle.std.{proofs.{Common.{◌≡◌, ℕ, Bool, true, false, cond, refl, sym, ap, ◌∙◌, arith}, lemmas.Bool.Decides.{nat_tests}}, specs.Prelude.{nat_lt}}
use Rattle.lab_chain.specs.Heavier.{heavier}

module _ {A : Type 0} (weight : A → ℕ) where
  -- which of three is the heaviest doesn't depend on which two are weighed first
  pub heaviest_of_three : (a b c : A) → heavier weight (heavier weight a b) c ≡ heavier weight a (heavier weight b c)
  heaviest_of_three a b c = at (nat_lt (weight a) (weight b)) (nat_lt (weight b) (weight c)) refl refl
    where
      at : (x y : Bool) → nat_lt (weight a) (weight b) ≡ x → nat_lt (weight b) (weight c) ≡ y → heavier weight (cond x b a) c ≡ heavier weight a (cond y c b)
      at true true p q = ap (λ t. cond t c b) q ∙ sym (ap (λ t. cond t c a) (let r : nat_lt (weight a) (weight c) ≡ true = grind (arith, nat_tests, p, q) in r))
      at true false p q = ap (λ t. cond t c b) q ∙ sym (ap (λ t. cond t b a) p)
      at false true p q = refl
      at false false p q = ap (λ t. cond t c a) (let r : nat_lt (weight a) (weight c) ≡ false = grind (arith, nat_tests, p, q) in r) ∙ sym (ap (λ t. cond t b a) p)

  -- nor, where different ones don't weigh the same, does the heavier of two depend on which stands first
  pub heavier_of_two : (of : ℕ → A) → ((a : A) → of (weight a) ≡ a) → (a b : A) → heavier weight a b ≡ heavier weight b a
  heavier_of_two of is a b = at (nat_lt (weight a) (weight b)) (nat_lt (weight b) (weight a)) refl refl
    where
      at : (x y : Bool) → nat_lt (weight a) (weight b) ≡ x → nat_lt (weight b) (weight a) ≡ y → cond x b a ≡ cond y a b
      at true true p q = absurd (grind (arith, nat_tests, p, q))
      at true false p q = refl
      at false true p q = refl
      at false false p q = let same : weight a ≡ weight b = grind (arith, nat_tests, p, q) in sym (is a) ∙ ap of same ∙ is b
