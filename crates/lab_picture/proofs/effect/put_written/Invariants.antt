use Rattle.std.proofs.Common.{◌≡◌, ◌++◌, drop, map, filter}
use Rattle.lab_history.specs.VersionName.{new_states}
use Rattle.lab_picture.specs.Effect.{behind, written_row, is_unlisted}
use Rattle.lab_picture.proofs.effect.put_written.Given as goal

abbrev pub invariant-loop-row : goal.invariant-loop-row
invariant-loop-row l =
    l.out.items ++ behind l.lead (map written_row (filter (is_unlisted l.op.rows) (new_states (drop l.row-index l.row-items))))
    ≡ l.initial.out.items ++ behind l.initial.lead (map written_row (filter (is_unlisted l.op.rows) (new_states l.row-items)))
