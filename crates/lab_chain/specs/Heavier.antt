-- The heavier of two findings, the first where both weigh as much.
use Rattle.std.specs.Prelude.{ℕ, nat_lt, cond}

-- the one that weighs more; the first where they weigh the same
abbrev pub heavier : {A : Type 0} → (A → ℕ) → A → A → A
heavier weight a b = cond (nat_lt (weight a) (weight b)) b a
