-- Merging of sorted lists of rows with their versions.
use Rattle.std.specs.Prelude.{cond, ℤ, Option, Some, None, List, [], ◌∷◌, ◌++◌, take, drop}
use Rattle.std.specs.List.{prefix_len}
use Rattle.lab_table.specs.Row.{Row, row_test}
use Rattle.lab_table.specs.Table.{State}
use Rattle.lab_history.specs.declared.operation.VersionName.{VersionName}
use Rattle.lab_history.specs.declared.operation.VersionName.TheVariants.{Initial}
use Rattle.lab_engine.specs.Log.{Version}
use Rattle.lab_engine.specs.Sight.{comes_after}

-- a row of a table with its initial version
abbrev pub initial_entry : Row × ℤ → Row × Version
initial_entry e = (e.0, record { name = Initial; state = Some e.1 })

-- the version of this name, where the row is written
abbrev pub written_version : VersionName → Option State → Option Version
written_version name None = None
written_version name (Some state) = Some (record { name = name; state = state })

-- a list without its first entry, if that is the row's
abbrev pub without_row : {V : Type 0} → Row → List (Row × V) → List (Row × V)
without_row row [] = []
without_row row (e ∷ es) = cond (row_test row e.0) es (e ∷ es)

-- two sorted lists merged; of a row that both have, the second's version stays
abbrev pub merged : List (Row × Version) → List (Row × Version) → List (Row × Version)
merged under [] = under
merged under (e ∷ over) = take (prefix_len (comes_after e.0) under) under ++ e ∷ merged (without_row e.0 (drop (prefix_len (comes_after e.0) under) under)) over
