use Rattle.std.proofs.Common.{◌≡◌, ◌+◌, length, drop}
use Rattle.lab_deps.specs.Marks.{all_marked}
use Rattle.lab_deps.proofs.turns.mark_all.Given as goal

abbrev pub invariant-loop-index : goal.invariant-loop-index
invariant-loop-index l = (length l.cells ≡ length l.initial.cells) × (all_marked (l.first + l.index) (drop l.index l.marks) l.cells ≡ all_marked l.first l.marks l.initial.cells)
