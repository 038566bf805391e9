use Rattle.std.{proofs.Common.{◌≡◌, drop}, specs.List.{list_any}}
use Rattle.lab_picture.specs.Named.{touches}
use Rattle.lab_picture.proofs.few.is_end.Given as goal

abbrev pub invariant-loop-arrow : goal.invariant-loop-arrow
invariant-loop-arrow l = list_any (touches l.txn l.op) (drop l.arrow-index l.arrows) ≡ list_any (touches l.txn l.op) l.arrows
