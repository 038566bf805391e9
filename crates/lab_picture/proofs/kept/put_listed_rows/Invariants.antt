use Rattle.std.proofs.Common.{◌≡◌, ◌++◌, drop, map}
use Rattle.std.specs.FinMap as finite
use Rattle.lab_picture.specs.Kept.{told_listed, kept_from}
use Rattle.lab_picture.proofs.kept.put_listed_rows.Given as goal

abbrev pub invariant-loop-row : goal.invariant-loop-row
invariant-loop-row l =
    l.out.items ++ kept_from l.named l.behind (map (told_listed l.op.writes) (drop l.row-index (finite.entries l.op.rows)))
    ≡ l.initial.out.items ++ kept_from l.named l.initial.behind (map (told_listed l.op.writes) (finite.entries l.op.rows))
