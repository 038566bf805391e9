use Rattle.std.proofs.Common.{◌≡◌, ◌++◌, false, drop}
use Rattle.lab_deps.specs.Turns.{turned, classes_of}
use Rattle.lab_deps.proofs.turns.turned.Given as goal

abbrev pub invariant-loop-place : goal.invariant-loop-place
invariant-loop-place l = l.found.items ++ turned l.before (classes_of l.answers (drop l.place l.numbers)) (drop l.place l.versions) ≡ turned false (classes_of l.answers l.numbers) l.versions
