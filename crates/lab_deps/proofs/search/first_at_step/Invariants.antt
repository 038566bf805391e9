use Rattle.lab_deps.proofs.Searches.{NoneBefore}
use Rattle.lab_deps.proofs.search.first_at_step.Given as goal

-- none of the kinds so far is true of the operation
abbrev pub invariant-loop-place : goal.invariant-loop-place
invariant-loop-place l = NoneBefore l.history l.kinds l.step.txn l.step.number l.step.op.now l.place
