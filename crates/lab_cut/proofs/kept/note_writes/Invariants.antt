use Rattle.std.proofs.Common.{◌≡◌, drop}
use Rattle.lab_history.specs.VersionName.{new_states}
use Rattle.lab_cut.specs.Kept.{with_writes}
use Rattle.lab_cut.proofs.kept.note_writes.Given as goal

abbrev pub invariant-loop-row : goal.invariant-loop-row
invariant-loop-row l = with_writes l.writes l.operation (new_states (drop l.row-index l.written)) ≡ with_writes l.initial.writes l.operation (new_states l.written)
