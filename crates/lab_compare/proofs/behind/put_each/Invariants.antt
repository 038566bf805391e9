use Rattle.std.proofs.Common.{◌≡◌, drop}
use Rattle.lab_commands.specs.Overwriting.{put_each}
use Rattle.lab_compare.proofs.behind.put_each.Given as goal

abbrev pub invariant-loop-row : goal.invariant-loop-row
invariant-loop-row l = put_each (drop l.row-index l.states) l.rows ≡ put_each l.states l.initial.rows
