-- The first row at which two tables differ.
use Rattle.std.specs.Prelude.{◌≡◌, ◌≢◌, Bool, true, ◌&&◌, ℤ, cond, Option, Some, None, List, [], ◌∷◌}
use Rattle.std.specs.FinMap as map
use Rattle.std.specs.Ordering.{int_eq}
use Rattle.lab_table.specs.Row.{Row, row_test, row_le}
use Rattle.lab_table.specs.Table.{Table}

-- the lesser of two rows
abbrev pub lesser : Row → Row → Row
lesser x y = cond (row_le x y) x y

-- whether two rows have the same name and the same value
abbrev pub same_entry : Row × ℤ → Row × ℤ → Bool
same_entry e f = row_test e.0 f.0 && int_eq e.1 f.1

-- the lesser row of the first place at which two lists of rows differ
abbrev pub parted : List (Row × ℤ) → List (Row × ℤ) → Option Row
parted [] [] = None
parted [] (f ∷ fs) = Some f.0
parted (e ∷ es) [] = Some e.0
parted (e ∷ es) (f ∷ fs) = cond (same_entry e f) (parted es fs) (Some (lesser e.0 f.0))

-- the least row of which two tables say otherwise (`IsLeastDifference`), by their rows in order
abbrev pub first_difference : Table → Table → Option Row
first_difference a b = parted (map.entries a) (map.entries b)

-- two tables say otherwise of this row, and of no lesser one
pub record IsLeastDifference (a b : Table) (row : Row) : Type 0 where
  pub differs : map.get a row ≢ map.get b row
  pub least : (other : Row) → map.get a other ≢ map.get b other → row_le row other ≡ true
