use Rattle.std.proofs.Common.{◌≡◌, ◌++◌, drop, flat_map}
use Rattle.lab_drawing.specs.Titles.{next_text}
use Rattle.lab_drawing.proofs.titles.put_next.Given as goal

abbrev pub invariant-loop-txn : goal.invariant-loop-txn
invariant-loop-txn l = l.out.items ++ flat_map next_text (drop l.txn-index l.txns) ≡ l.initial.out.items ++ flat_map next_text l.txns
