-- Bits of a set's words.
use Rattle.std.proofs.Common.{◌≡◌, ℕ, zero, suc, ◌*◌, ◌/◌, ◌%◌, ◌^◌, ◌<◌, ◌==◌, ◌||◌, ◌≢◌, max, Bool, true, false, List, get_or, set, length, refl, ap, sym, ◌∙◌, inl, inr, arith}
use Rattle.std.specs.{Prelude.{bit_or, bit_and}, Int.{bit_at}}
use Rattle.std.proofs.lemmas.{Bool.{cases_eq}, List.{get_or-set_same, get_or-set_other}, Nat.Bits.{bit_at_or, bit_at-lt, bit_at-zero, bit_at-pow_same, bit_at-pow_other, shr_and_one}}
use Rattle.std.proofs.Math.{Pow.{pow-lt}, Nat.{mod-eq_of_lt}}
use Rattle.lab_sets.specs.Sets.{has}

-- a bit that is set in one of two words is set in both together
either : (a b : ℕ) → a < 2 → b < 2 → (max a b == 1) ≡ ((a == 1) || (b == 1))
either zero zero _ _ = refl
either zero (suc zero) _ _ = refl
either (suc zero) zero _ _ = refl
either (suc zero) (suc zero) _ _ = refl
either (suc (suc a)) b small _ = absurd (omega arith)
either zero (suc (suc b)) _ small = absurd (omega arith)
either (suc zero) (suc (suc b)) _ small = absurd (omega arith)

or_bits : (a b k : ℕ) → (bit_at (bit_or a b) k == 1) ≡ ((bit_at a k == 1) || (bit_at b k == 1))
or_bits a b k = ap (λ x. x == 1) (bit_at_or a b k) ∙ either (bit_at a k) (bit_at b k) (bit_at-lt a k) (bit_at-lt b k)

-- words that are those of two sets together
pub united : (new old other : List ℕ) → ((k : ℕ) → get_or new k 0 ≡ bit_or (get_or old k 0) (get_or other k 0)) → (n : ℕ) → has new n ≡ (has old n || has other n)
unfolding has
united new old other each n = ap (λ word. bit_at word (n % 64) == 1) (each (n / 64)) ∙ or_bits (get_or old (n / 64) 0) (get_or other (n / 64) 0) (n % 64)

-- words without bits
pub bare : (words : List ℕ) → ((k : ℕ) → get_or words k 0 ≡ 0) → (n : ℕ) → has words n ≡ false
unfolding has
bare words each n = ap (λ word. bit_at word (n % 64) == 1) (each (n / 64)) ∙ ap (λ bit. bit == 1) (bit_at-zero (n % 64))

-- what is tested of a word
pub tested : (words : List ℕ) (n : ℕ) → (bit_and (get_or words (n / 64) 0 / 2 ^ (n % 64)) 1 == 1) ≡ has words n
unfolding has
tested words n = ap (λ bit. bit == 1) (shr_and_one (get_or words (n / 64) 0) (n % 64))

-- a number's bit in a word of 64
bit_of : (k : ℕ) → k < 64 → 1 * 2 ^ k % 18446744073709551616 ≡ 2 ^ k
bit_of k small = let fits : 2 ^ k < 2 ^ 64 = pow-lt small in ap (λ x. x % 18446744073709551616) (omega arith) ∙ mod-eq_of_lt fits

-- the same number of two
same : (m n : ℕ) → m ≡ n → (m == n) ≡ true
same m n e = search (arith, e)

other : (m n : ℕ) → m ≢ n → (m == n) ≡ false
other m n e = search (arith, e)

or_true : (x : Bool) → (x || true) ≡ true
or_true true = refl
or_true false = refl

or_false : (x : Bool) → (x || false) ≡ x
or_false true = refl
or_false false = refl

-- a set with one number more
pub inserted : (words : List ℕ) (n : ℕ) → n / 64 < length words → (m : ℕ)
    → has (set words (n / 64) (bit_or (get_or words (n / 64) 0) (1 * 2 ^ (n % 64) % 18446744073709551616))) m ≡ (m == n || has words m)
unfolding has
inserted words n within m =
    let word : ℕ = get_or words (n / 64) 0 in
    let new : ℕ = bit_or word (1 * 2 ^ (n % 64) % 18446744073709551616) in
    let with_it : List ℕ = set words (n / 64) new in
    let is_new : new ≡ bit_or word (2 ^ (n % 64)) = ap (bit_or word) (bit_of (n % 64) (omega arith)) in
    elim (cases_eq (m / 64) (n / 64)) [
      | inr apart ↦
          ap (λ w. bit_at w (m % 64) == 1) (get_or-set_other words (n / 64) (m / 64) new 0 apart)
          ∙ sym (ap (λ x. x || (bit_at (get_or words (m / 64) 0) (m % 64) == 1)) (other m n (λ e. apart (ap (λ x. x / 64) e))))
      | inl here ↦
          let there : get_or with_it (m / 64) 0 ≡ bit_or word (2 ^ (n % 64)) = ap (λ x. get_or with_it x 0) here ∙ get_or-set_same words (n / 64) new 0 within ∙ is_new in
          let split = ap (λ w. bit_at w (m % 64) == 1) there ∙ or_bits word (2 ^ (n % 64)) (m % 64) in
          let word_is : word ≡ get_or words (m / 64) 0 = ap (λ x. get_or words x 0) (sym here) in
          elim (cases_eq (m % 64) (n % 64)) [
            | inl equal ↦
                let is_n : m ≡ n = omega (arith, here, equal) in
                let set_there : (bit_at (2 ^ (n % 64)) (m % 64) == 1) ≡ true = ap (λ x. bit_at (2 ^ (n % 64)) x == 1) equal ∙ ap (λ x. x == 1) (bit_at-pow_same (n % 64)) in
                split ∙ ap (λ x. (bit_at word (m % 64) == 1) || x) set_there ∙ or_true _
                ∙ sym (ap (λ x. x || (bit_at (get_or words (m / 64) 0) (m % 64) == 1)) (same m n is_n))
            | inr differs ↦
                let unset : (bit_at (2 ^ (n % 64)) (m % 64) == 1) ≡ false = ap (λ x. x == 1) (bit_at-pow_other (n % 64) (m % 64) differs) in
                split ∙ ap (λ x. (bit_at word (m % 64) == 1) || x) unset ∙ or_false _
                ∙ ap (λ w. bit_at w (m % 64) == 1) word_is
                ∙ sym (ap (λ x. x || (bit_at (get_or words (m / 64) 0) (m % 64) == 1)) (other m n (λ e. differs (ap (λ x. x % 64) e))))
          ]
    ]
