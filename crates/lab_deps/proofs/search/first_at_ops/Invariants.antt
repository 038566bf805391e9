use Rattle.lab_deps.specs.{FirstOf.{IsFirstOf}, Search.{ComesFirst, IsSoughtTo}}
use Rattle.lab_deps.proofs.search.first_at_ops.Given as goal

-- what is found is the first at the transactions so far
abbrev pub invariant-loop-txn : goal.invariant-loop-txn
invariant-loop-txn l = IsFirstOf (ComesFirst l.history) (IsSoughtTo l.history l.kinds l.txn-index 0) l.found
