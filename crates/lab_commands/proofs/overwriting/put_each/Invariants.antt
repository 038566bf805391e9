use Rattle.std.proofs.Common.{◌≡◌, drop}
use Rattle.lab_history.specs.VersionName.{new_states}
use Rattle.lab_commands.specs.Overwriting.{put_each}
use Rattle.lab_commands.proofs.overwriting.put_each.Given as goal

abbrev pub invariant-loop-row : goal.invariant-loop-row
invariant-loop-row l = put_each (new_states (drop l.row-index l.states)) l.rows ≡ put_each (new_states l.states) l.initial.rows
