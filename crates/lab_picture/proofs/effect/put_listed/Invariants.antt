use Rattle.std.proofs.Common.{◌≡◌, ◌++◌, drop, map}
use Rattle.std.specs.FinMap as finite
use Rattle.lab_picture.specs.Effect.{behind, listed_row}
use Rattle.lab_picture.proofs.effect.put_listed.Given as goal

abbrev pub invariant-loop-row : goal.invariant-loop-row
invariant-loop-row l =
    l.out.items ++ behind l.lead (map (listed_row l.op.writes) (drop l.row-index (finite.entries l.op.rows)))
    ≡ l.initial.out.items ++ behind l.initial.lead (map (listed_row l.op.writes) (finite.entries l.op.rows))
