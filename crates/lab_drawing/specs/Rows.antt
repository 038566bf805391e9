-- The rows named by the dependencies of a cycle.
use Rattle.std.specs.Prelude.{Bool, List, map, filter}
use Rattle.std.specs.List.{list_any}
use Rattle.std.specs.FinMap as finite
use Rattle.lab_table.specs.Row.{Row, row_test}
use Rattle.lab_history.specs.History.{History}
use Rattle.lab_deps.specs.declared.edge.Edge.{Edge}

-- whether a dependency of a cycle names a row
abbrev pub is_of : List Edge → Row → Bool
is_of walk row = list_any (λ e. row_test e.row row) walk

-- the rows that the dependencies of a cycle name, by rising row; each has installers
abbrev pub rows_of : History → List Edge → List Row
rows_of h walk = filter (is_of walk) (map (λ entry. entry.0) (finite.entries h.installed))

-- whether a row is among these
abbrev pub is_named : List Row → Row → Bool
is_named named row = list_any (λ other. row_test other row) named
