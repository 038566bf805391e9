use Rattle.std.proofs.Common.{◌≡◌, ◌++◌, drop, flat_map}
use Rattle.lab_evidence.specs.Transactions.{row_at}
use Rattle.lab_evidence.proofs.notes.rows_at.Given as goal

abbrev pub invariant-loop-question : goal.invariant-loop-question
invariant-loop-question l = l.rows.items ++ flat_map (row_at l.txn l.op) (drop l.question-index l.asked) ≡ flat_map (row_at l.txn l.op) l.asked
