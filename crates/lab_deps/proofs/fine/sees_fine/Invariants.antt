use Rattle.std.{proofs.Common.{◌≡◌, drop}, specs.FinMap.{entries}}
use Rattle.lab_deps.specs.{Fine.{is_unfine}, FirstOf.{first_value}}
use Rattle.lab_deps.proofs.fine.sees_fine.Given as goal

-- the row is found among the entries that are left as among all
abbrev pub invariant-loop-entry : goal.invariant-loop-entry
invariant-loop-entry l = first_value (is_unfine l.history l.txn l.number) (drop l.entry-index l.entries) ≡ first_value (is_unfine l.history l.txn l.number) (entries l.op.view)
