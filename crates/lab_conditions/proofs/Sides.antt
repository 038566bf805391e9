-- Numbers on either side of another one.
use Rattle.std.proofs.{Common.{◌≡◌, ℤ, not, ◌||◌, int_lt, arith}}
use Rattle.std.specs.Ordering.{int_eq}

pub apart : (n m : ℤ) → (int_lt n m || int_lt m n) ≡ not (int_eq n m)
apart n m = search (arith)
