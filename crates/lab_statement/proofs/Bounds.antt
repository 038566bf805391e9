-- Tests of bounds.
use Rattle.lab_statement.proofs.Common.{◌≡◌, ◌≤◌, ℕ, Bool, true, false, inl, inr, nat_le, cases_Bool, le-leb, leb-true, false≢true, refl}

-- two tests of one bound
pub same_test : (b : Bool) (m n : ℕ) → (b ≡ true → m ≤ n) → (m ≤ n → b ≡ true) → nat_le m n ≡ b
same_test true m n there back = le-leb m n (there refl)
same_test false m n there back = elim (cases_Bool (nat_le m n)) [
  | inl is ↦ absurd (false≢true (back (leb-true m n is)))
  | inr isnt ↦ isnt
]
