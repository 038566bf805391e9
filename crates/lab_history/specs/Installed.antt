-- The installers of each row in order, which is its version order.
--
-- Origin: Adya, Liskov and O'Neil, "Generalized Isolation Level Definitions" (2000), section 4.
use Rattle.std.specs.Prelude.{ℕ, List}
use Rattle.std.specs.FinMap.{FinMap}
use Rattle.lab_table.specs.Row.{row_cmp}

-- the transactions that installed each row, in order
abbrev pub Installed : Type 0
Installed = FinMap row_cmp (List ℕ)
