use Rattle.std.proofs.Common.{◌≡◌, ◌++◌, drop}
use Rattle.lab_picture.specs.Classes.{steps_from}
use Rattle.lab_picture.proofs.classes.steps_at.Given as goal

abbrev pub invariant-loop-index : goal.invariant-loop-index
invariant-loop-index l = l.steps.items ++ steps_from l.txn l.op l.index (drop l.index l.arrows) ≡ steps_from l.txn l.op 0 l.arrows
