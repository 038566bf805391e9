use Rattle.lab_engine.proofs.Common.{each_row, length, name_over, seen_of, vec_capacity, ◌++◌, ◌+◌, ◌≡◌, ◌≤◌}
use Rattle.lab_engine.proofs.reading.names_seen.Given as goal

-- there is room for the rows that are left, and the names so far and theirs are those of all
abbrev pub invariant-loop-row : goal.invariant-loop-row
invariant-loop-row l = record {
  room : length l.names.items + length l.row-iterator ≤ vec_capacity l.names;
  made : l.names.items ++ each_row (λ row kept. name_over (seen_of l.session l.place kept)) l.row-iterator ≡ each_row (λ row kept. name_over (seen_of l.session l.place kept)) l.rows.entries;
}
