use Rattle.lab_engine.proofs.Common.{chain_in, cond, drop, list_any, longer, None, pending_in, Row, row_eq, ℕ, ◌&&◌, ◌==◌, ◌≡◌}
use Rattle.lab_engine.proofs.row_states.RowStates.install_each.Given as goal

-- with what is pending of the rows that are left installed it is what it is to be
abbrev pub invariant-loop-row : goal.invariant-loop-row
invariant-loop-row l = record {
  chain : (row : Row) → cond (list_any (row_eq row) (drop l.row-index l.rows)) (longer l.by l.place (pending_in l.self row l.session) (chain_in l.self row)) (chain_in l.self row)
      ≡ cond (list_any (row_eq row) l.rows) (longer l.by l.place (pending_in l.fn.self row l.session) (chain_in l.fn.self row)) (chain_in l.fn.self row);
  pending : (row : Row) (n : ℕ) → cond (list_any (row_eq row) (drop l.row-index l.rows) && n == l.session) None (pending_in l.self row n)
      ≡ cond (list_any (row_eq row) l.rows && n == l.session) None (pending_in l.fn.self row n);
}
