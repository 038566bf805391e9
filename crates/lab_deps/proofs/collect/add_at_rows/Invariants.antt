use Rattle.std.specs.{Prelude.{Contains}, List.{flat_map}}
use Rattle.lab_table.specs.Row.{Row}
use Rattle.lab_deps.{specs.{EdgesByRow.{Chain, found_at_row, found_by, rows_of}, Numbering.{HasPlaces, where_fits}}, proofs.Sinking.{Leads}}
use Rattle.lab_deps.proofs.collect.add_at_rows.Given as goal

-- what is left is handed at each of the rows that are left
abbrev pub invariant-loop-row : goal.invariant-loop-row
invariant-loop-row g l =
    Leads (where_fits (HasPlaces l.history) g.S.EdgeSink.handed) l.initial.sink l.sink (flat_map (found_at_row l.history l.txn l.op) l.row-iterator) (found_by l.history l.txn l.op)
    × ((row : Row) (chain : Chain) → Contains l.row-iterator (row, chain) → Contains (rows_of l.history) (row, chain))
