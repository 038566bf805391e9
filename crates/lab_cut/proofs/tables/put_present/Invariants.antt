use Rattle.std.proofs.Common.{◌≡◌, drop}
use Rattle.lab_history.specs.VersionName.{new_states}
use Rattle.lab_cut.specs.Overlaid.{put_present}
use Rattle.lab_cut.proofs.tables.put_present.Given as goal

abbrev pub invariant-loop-row : goal.invariant-loop-row
invariant-loop-row l = put_present l.rows (new_states (drop l.row-index l.states)) ≡ put_present l.initial.rows (new_states l.states)
