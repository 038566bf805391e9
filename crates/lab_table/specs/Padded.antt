-- A short text in sixteen bytes, with zeros after it.
use Rattle.std.specs.Prelude.{ℕ, ◌-◌, Bool, not, ◌==◌, List, ◌++◌, length, replicate}
use Rattle.std.specs.List.{take_while}

-- a text with as many zeros behind it as make sixteen bytes
abbrev pub padded : List ℕ → List ℕ
padded text = text ++ replicate (16 - length text) 0

-- whether a byte isn't zero
abbrev pub is_nonzero : ℕ → Bool
is_nonzero b = not (b == 0)

-- what stands before the first zero
abbrev pub unpadded : List ℕ → List ℕ
unpadded bytes = take_while is_nonzero bytes
