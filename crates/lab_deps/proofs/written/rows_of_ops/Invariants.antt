use Rattle.std.proofs.Common.{◌≡◌, ◌++◌, drop}
use Rattle.lab_deps.specs.Meetings.{written_in}
use Rattle.lab_deps.proofs.written.rows_of_ops.Given as goal

-- the rows so far and those of the operations that are left are all
abbrev pub invariant-loop-op : goal.invariant-loop-op
invariant-loop-op l = l.rows.items ++ written_in (drop l.op-index l.ops) ≡ written_in l.ops
