-- Which operations are drawn in a column that has many.
use Rattle.std.specs.Prelude.{ℕ, zero, suc, ◌+◌, ◌==◌, nat_le, Bool, not, ◌||◌, cond, List}
use Rattle.std.specs.List.{list_any}
use Rattle.lab_drawing.specs.declared.drawing.Arrow.{Arrow}
use Rattle.lab_picture.specs.Named.{touches}

-- whether an operation is drawn: where few are, one of the first eight, the marked one of its transaction, and one that an arrow leads from or to; else each
abbrev pub is_kept : Bool → List Arrow → ℕ → ℕ → ℕ → Bool
is_kept few arrows n marked k = not few || (nat_le k 8 || ((k == marked) || list_any (touches n k) arrows))

-- how many of the numbers from 1 to one have a property
abbrev pub count_to : (ℕ → Bool) → ℕ → ℕ
count_to p zero = 0
count_to p (suc k) = count_to p k + cond (p (suc k)) 1 0

-- at which place of its column an operation is drawn: how many are, up to it
abbrev pub slot_of : Bool → List Arrow → ℕ → ℕ → ℕ → ℕ
slot_of few arrows n marked k = count_to (is_kept few arrows n marked) k
