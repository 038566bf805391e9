use Rattle.std.proofs.Common.{◌≡◌, drop}
use Rattle.lab_drawing.specs.Rows.{is_of}
use Rattle.lab_drawing.proofs.rows.is_of.Given as goal

abbrev pub invariant-loop-edge : goal.invariant-loop-edge
invariant-loop-edge l = is_of (drop l.edge-index l.walk) l.row ≡ is_of l.walk l.row
