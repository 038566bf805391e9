use Rattle.std.proofs.Common.{◌≡◌, ◌++◌, drop}
use Rattle.lab_compare.specs.Comparison.{lines_text}
use Rattle.lab_compare.proofs.comparison.put_lines.Given as goal

abbrev pub invariant-loop-place : goal.invariant-loop-place
invariant-loop-place l = (l.out.items ++ lines_text l.sides l.place (drop l.place l.lines) ≡ l.initial.out.items ++ lines_text l.sides 0 l.lines) × (l.cursors ≡ l.sides)
