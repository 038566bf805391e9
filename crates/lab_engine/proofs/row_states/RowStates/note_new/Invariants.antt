use Rattle.lab_engine.proofs.Common.{filter, is_none, length, map, pending_in, take, vec_capacity, ◌++◌, ◌+◌, ◌≡◌, ◌≤◌}
use Rattle.lab_engine.proofs.row_states.RowStates.note_new.Given as goal

-- there is room for the rows that are left, and those so far that are new stand behind the others
abbrev pub invariant-loop-entry : goal.invariant-loop-entry
invariant-loop-entry l = record {
  room : length l.rows.items + length l.entries ≤ vec_capacity l.rows + l.entry-index;
  noted : l.rows.items ≡ l.fn.rows.items ++ filter (λ row. is_none (pending_in l.self row l.session)) (map (λ e. e.0) (take l.entry-index l.entries));
}
