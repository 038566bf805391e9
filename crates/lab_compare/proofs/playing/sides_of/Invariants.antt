use Rattle.std.proofs.Common.{drop}
use Rattle.lab_compare.proofs.SidesSoFar.{SoFar}
use Rattle.lab_compare.proofs.playing.sides_of.Given as goal

abbrev pub invariant-loop-level : goal.invariant-loop-level
invariant-loop-level l = SoFar l.script l.levels (drop l.level-index l.levels) l.sides.items
