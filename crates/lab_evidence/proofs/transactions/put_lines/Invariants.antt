use Rattle.std.proofs.Common.{◌≡◌, ◌++◌, drop}
use Rattle.lab_evidence.specs.Transactions.{lines_text}
use Rattle.lab_evidence.proofs.transactions.put_lines.Given as goal

abbrev pub invariant-loop-index : goal.invariant-loop-index
invariant-loop-index l = l.out.items ++ lines_text l.history l.scope l.txn l.index (drop l.index l.ops) ≡ l.initial.out.items ++ lines_text l.history l.scope l.txn 0 l.ops
