use Rattle.std.proofs.Common.{◌≡◌, ◌++◌, drop}
use Rattle.lab_compare.specs.Commits.{written_by}
use Rattle.lab_compare.proofs.commits.put_ops.Given as goal

abbrev pub invariant-loop-op : goal.invariant-loop-op
invariant-loop-op l = l.installs.items ++ written_by (drop l.op-index l.ops) ≡ l.initial.installs.items ++ written_by l.ops
