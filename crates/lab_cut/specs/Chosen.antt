-- Rows chosen by a test.
use Rattle.std.specs.Prelude.{Bool, is_some}
use Rattle.std.specs.FinMap.{get}
use Rattle.lab_table.specs.Row.{Row}
use Rattle.lab_cut.specs.declared.rows.Chosen.{Chosen}

-- whether a row is among them
abbrev pub has : Chosen → Row → Bool
has chosen row = is_some (get chosen.rows row)
