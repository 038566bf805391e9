use Rattle.std.proofs.Common.{◌≡◌, ◌++◌, drop, map, filter}
use Rattle.lab_history.specs.VersionName.{new_states}
use Rattle.lab_picture.specs.{Effect.{is_unlisted}, Kept.{told_written, kept_from}}
use Rattle.lab_picture.proofs.kept.put_written_rows.Given as goal

abbrev pub invariant-loop-row : goal.invariant-loop-row
invariant-loop-row l =
    l.out.items ++ kept_from l.named l.behind (map told_written (filter (is_unlisted l.op.rows) (new_states (drop l.row-index l.row-items))))
    ≡ l.initial.out.items ++ kept_from l.named l.initial.behind (map told_written (filter (is_unlisted l.op.rows) (new_states l.row-items)))
