-- Where two texts of the same length differ, as the bits of a number.
use Rattle.std.specs.Prelude.{ℕ, Bool, not, ◌==◌, List}
use Rattle.std.specs.Simd.Lanes.{zip2, mask_l}

-- whether two bytes differ
abbrev pub differ : ℕ → ℕ → Bool
differ a b = not (a == b)

-- a number with a bit for each pair of bytes, which is set where they differ; the first pair has the lowest bit
abbrev pub differences : List ℕ → List ℕ → ℕ
differences xs ys = mask_l (zip2 differ xs ys)
