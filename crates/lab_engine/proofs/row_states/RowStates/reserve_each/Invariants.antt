use Rattle.lab_engine.proofs.Common.{IsReadyAt, IsSame, Row, slice_index_or, Written, ℕ, ◌<◌}
use Rattle.lab_engine.proofs.row_states.RowStates.reserve_each.Given as goal

-- nothing has changed, and there is room in the rows so far
abbrev pub invariant-loop-entry : goal.invariant-loop-entry
invariant-loop-entry l = record {
  same : IsSame l.fn.self l.self;
  ready : (k : ℕ) (d : Row × Written) → k < l.entry-index → IsReadyAt l.self (slice_index_or l.entries k d).0;
}
