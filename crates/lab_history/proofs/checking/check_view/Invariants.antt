use Rattle.std.proofs.Common.{◌≡◌, drop}
use Rattle.lab_history.specs.FirstPartsFault.{listed_from}
use Rattle.lab_history.proofs.checking.check_view.Given as goal

abbrev pub invariant-loop-index : goal.invariant-loop-index
invariant-loop-index l = listed_from l.place l.index (drop l.index l.entries) ≡ listed_from l.place 0 l.entries
