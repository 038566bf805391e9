-- Runs of lists of operations, one behind the other.
use Rattle.std.proofs.Common.{◌≡◌, List, [], ◌∷◌, ◌++◌, refl}
use Rattle.lab_table.specs.Table.{Table, overwritten}
use Rattle.lab_history.specs.declared.operation.Op.{Op}
use Rattle.lab_judge.specs.Runs.{table_after, RunAsRecorded}

-- ---- runs of lists of operations
pub table_after-append : (a b : List Op) (t : Table) → table_after (a ++ b) t ≡ table_after b (table_after a t)
table_after-append [] b t = refl
table_after-append (op ∷ a) b t = table_after-append a b (overwritten op.writes t)

pub run-append : (a b : List Op) (t : Table) → RunAsRecorded a t → RunAsRecorded b (table_after a t) → RunAsRecorded (a ++ b) t
run-append [] b t p q = q
run-append (op ∷ a) b t p q = (p.0, run-append a b (overwritten op.writes t) p.1 q)
