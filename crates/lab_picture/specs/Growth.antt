-- How many lines the fullest box of a picture has beyond four.
use Rattle.std.specs.Prelude.{ℕ, ◌+◌, ◌-◌, max, List, [], ◌∷◌}
use Rattle.lab_history.specs.History.{History}
use Rattle.lab_history.specs.Version.{ops_of}
use Rattle.lab_history.specs.declared.operation.Op.{Op}
use Rattle.lab_drawing.specs.declared.drawing.Arrow.{Arrow}
use Rattle.lab_picture.specs.Boxes.{box_lines}
use Rattle.lab_picture.specs.Named.{rows_at}

-- how many lines the fullest box of a transaction has, where so many operations come before these, and no fewer than given
abbrev pub fullest_box : List Arrow → ℕ → ℕ → ℕ → List Op → ℕ
fullest_box arrows n before most [] = most
fullest_box arrows n before most (op ∷ ops) = fullest_box arrows n (before + 1) (max most (box_lines (rows_at arrows n (before + 1)) op)) ops

-- how many the fullest box of some transactions has, and no fewer than given
abbrev pub fullest : History → List Arrow → ℕ → List ℕ → ℕ
fullest h arrows most [] = most
fullest h arrows most (n ∷ ns) = fullest h arrows (fullest_box arrows n 0 most (ops_of h n)) ns

-- how many the fullest box has beyond four
abbrev pub extra_lines : History → List Arrow → List ℕ → ℕ
extra_lines h arrows ns = fullest h arrows 4 ns - 4
