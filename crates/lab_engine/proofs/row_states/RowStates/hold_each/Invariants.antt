use Rattle.lab_engine.proofs.{Common.{chain_in, drop, IsReadyAt, length, pending_in, Row, slice_index_or, Written, ℕ, ◌<◌, ◌≡◌}, RowWalks.{held}}
use Rattle.lab_engine.proofs.row_states.RowStates.hold_each.Given as goal

-- there is room in each row that is written, and the writes that are left lead to what all do
abbrev pub invariant-loop-entry : goal.invariant-loop-entry
invariant-loop-entry l = record {
  chain : (row : Row) → chain_in l.self row ≡ chain_in l.fn.self row;
  pending : (row : Row) (n : ℕ) → held l.name l.session row n (drop l.entry-index l.entries) (pending_in l.self row n) ≡ held l.name l.session row n l.entries (pending_in l.fn.self row n);
  ready : (k : ℕ) (d : Row × Written) → k < length l.entries → IsReadyAt l.self (slice_index_or l.entries k d).0;
}
