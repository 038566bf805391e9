use Rattle.std.proofs.Common.{drop}
use Rattle.lab_matrix.proofs.AtLevels.{SoFar}
use Rattle.lab_matrix.proofs.columns.columns_at.Given as goal

abbrev pub invariant-loop-level : goal.invariant-loop-level
invariant-loop-level l = SoFar l.levels (drop l.level-index l.levels) l.columns.items
