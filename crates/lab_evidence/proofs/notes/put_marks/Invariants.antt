use Rattle.std.proofs.Common.{◌≡◌, ◌++◌, drop, flat_map}
use Rattle.lab_evidence.specs.Transactions.{mark_text}
use Rattle.lab_evidence.proofs.notes.put_marks.Given as goal

abbrev pub invariant-loop-question : goal.invariant-loop-question
invariant-loop-question l = l.out.items ++ flat_map (mark_text l.txn l.op) (drop l.question-index l.asked) ≡ l.initial.out.items ++ flat_map (mark_text l.txn l.op) l.asked
