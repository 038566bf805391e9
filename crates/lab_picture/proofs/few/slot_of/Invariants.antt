use Rattle.std.proofs.Common.{◌≡◌}
use Rattle.lab_picture.specs.Few.{is_kept, count_to}
use Rattle.lab_picture.proofs.few.slot_of.Given as goal

abbrev pub invariant-loop-before : goal.invariant-loop-before
invariant-loop-before l = l.found ≡ count_to (is_kept l.few l.arrows l.txn l.marked) l.before
