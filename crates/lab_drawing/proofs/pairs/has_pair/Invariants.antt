use Rattle.std.proofs.Common.{◌≡◌, drop}
use Rattle.lab_drawing.specs.Pairs.{has_pair}
use Rattle.lab_drawing.proofs.pairs.has_pair.Given as goal

-- what is left of the cycle says what all of it says
abbrev pub invariant-loop-edge : goal.invariant-loop-edge
invariant-loop-edge l = has_pair l.history l.pair (drop l.edge-index l.walk) ≡ has_pair l.history l.pair l.walk
