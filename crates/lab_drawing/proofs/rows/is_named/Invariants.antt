use Rattle.std.proofs.Common.{◌≡◌, drop}
use Rattle.lab_drawing.specs.Rows.{is_named}
use Rattle.lab_drawing.proofs.rows.is_named.Given as goal

abbrev pub invariant-loop-other : goal.invariant-loop-other
invariant-loop-other l = is_named (drop l.other-index l.named) l.row ≡ is_named l.named l.row
