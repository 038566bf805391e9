use Rattle.std.proofs.Common.{◌≡◌, ◌++◌, drop}
use Rattle.lab_history.specs.Index.{placed_from}
use Rattle.lab_history.proofs.index.add_places.Given as goal

abbrev pub invariant-loop-index : goal.invariant-loop-index
invariant-loop-index l = l.places.items ++ placed_from l.row l.index (drop l.index l.installers) ≡ l.initial.places.items ++ placed_from l.row 0 l.installers
