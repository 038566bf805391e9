use Rattle.std.proofs.Common.{◌≡◌, ◌++◌, drop, flat_map}
use Rattle.lab_evidence.specs.Transactions.{asked_note}
use Rattle.lab_evidence.proofs.notes.put_notes.Given as goal

abbrev pub invariant-loop-question : goal.invariant-loop-question
invariant-loop-question l = l.out.items ++ flat_map (asked_note l.txn l.op) (drop l.question-index l.asked) ≡ l.initial.out.items ++ flat_map (asked_note l.txn l.op) l.asked
