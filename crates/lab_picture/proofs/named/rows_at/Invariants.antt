use Rattle.std.proofs.Common.{◌≡◌, ◌++◌, drop}
use Rattle.lab_picture.specs.Named.{rows_at}
use Rattle.lab_picture.proofs.named.rows_at.Given as goal

abbrev pub invariant-loop-arrow : goal.invariant-loop-arrow
invariant-loop-arrow l = l.rows.items ++ rows_at (drop l.arrow-index l.arrows) l.txn l.op ≡ rows_at l.arrows l.txn l.op
