use Rattle.std.proofs.Common.{◌≡◌, drop, map}
use Rattle.std.specs.FinMap as finite
use Rattle.lab_picture.specs.Kept.{told_listed, behind_all}
use Rattle.lab_picture.proofs.kept.behind_listed.Given as goal

abbrev pub invariant-loop-row : goal.invariant-loop-row
invariant-loop-row l =
    behind_all l.named l.behind (map (told_listed l.op.writes) (drop l.row-index (finite.entries l.op.rows)))
    ≡ behind_all l.named l.initial.behind (map (told_listed l.op.writes) (finite.entries l.op.rows))
