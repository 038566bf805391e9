use Rattle.std.proofs.Common.{◌≡◌, ◌++◌, drop}
use Rattle.lab_drawing.specs.Written.{rows_along}
use Rattle.lab_drawing.proofs.written.rows_among.Given as goal

-- the rows so far, and those of the operations that are left
abbrev pub invariant-loop-index : goal.invariant-loop-index
invariant-loop-index l = l.rows.items ++ rows_along l.history l.txn l.index (drop l.index l.ops) ≡ rows_along l.history l.txn 0 l.ops
