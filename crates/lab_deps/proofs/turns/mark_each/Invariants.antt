use Rattle.std.proofs.Common.{◌≡◌, length, drop}
use Rattle.lab_deps.specs.Marks.{marked}
use Rattle.lab_deps.proofs.turns.mark_each.Given as goal

abbrev pub invariant-loop-number : goal.invariant-loop-number
invariant-loop-number l = (length l.cells ≡ length l.initial.cells) × (marked l.first l.step l.bits (drop l.number-index l.numbers) l.cells ≡ marked l.first l.step l.bits l.numbers l.initial.cells)
