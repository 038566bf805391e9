use Rattle.std.proofs.Common.{◌≡◌, ◌++◌, drop}
use Rattle.lab_history.specs.Index.{placed}
use Rattle.lab_history.proofs.index.places_of.Given as goal

abbrev pub invariant-loop-row : goal.invariant-loop-row
invariant-loop-row l = l.places.items ++ placed (drop l.row-index l.installed) ≡ placed l.installed
