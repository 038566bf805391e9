use Rattle.std.proofs.Common.{◌≡◌, drop}
use Rattle.lab_drawing.specs.Readers.{some_stand_in_the_way}
use Rattle.lab_drawing.proofs.readers.some_stand_in_the_way.Given as goal

-- what is left of the cycle says what all of it says
abbrev pub invariant-loop-edge : goal.invariant-loop-edge
invariant-loop-edge l = some_stand_in_the_way l.history (drop l.edge-index l.walk) ≡ some_stand_in_the_way l.history l.walk
