use Rattle.std.proofs.Common.{◌≡◌, drop}
use Rattle.lab_judge.specs.Runs.{table_after}
use Rattle.lab_commands.proofs.standing.put_ops.Given as goal

abbrev pub invariant-loop-op : goal.invariant-loop-op
invariant-loop-op l = table_after (drop l.op-index l.ops) l.rows ≡ table_after l.ops l.initial.rows
