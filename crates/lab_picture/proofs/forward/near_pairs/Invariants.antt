use Rattle.std.proofs.Common.{◌≡◌, ◌++◌, drop}
use Rattle.lab_picture.specs.Forward.{near_pairs}
use Rattle.lab_picture.proofs.forward.near_pairs.Given as goal

abbrev pub invariant-loop-place : goal.invariant-loop-place
invariant-loop-place l = l.pairs.items ++ near_pairs l.place (drop l.place l.columns) ≡ near_pairs 0 l.columns
