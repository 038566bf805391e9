use Rattle.std.proofs.Common.{◌≡◌, ◌++◌, drop}
use Rattle.lab_history.specs.Index.{numbers_from}
use Rattle.lab_history.proofs.index.numbers_of.Given as goal

abbrev pub invariant-loop-place : goal.invariant-loop-place
invariant-loop-place l = l.numbers.items ++ numbers_from l.place (drop l.place l.txns) ≡ numbers_from 0 l.txns
