use Rattle.std.proofs.Common.{◌≡◌, drop}
use Rattle.lab_drawing.specs.Forks.{is_phantom}
use Rattle.lab_drawing.proofs.forks.is_phantom.Given as goal

-- what is left of the cycle says what all of it says
abbrev pub invariant-loop-edge : goal.invariant-loop-edge
invariant-loop-edge l = is_phantom l.history (drop l.edge-index l.walk) ≡ is_phantom l.history l.walk
