-- Stable reads: what each statement of a transaction saw is still true when the transaction commits.
--
-- Origin: predicate locks: Eswaran, Gray, Lorie and Traiger, "The Notions of Consistency and Predicate Locks in a
-- Database System" (1976); validation: Kung and Robinson, "On Optimistic Methods for Concurrency Control" (1981).
use Rattle.std.specs.Prelude.{◌≡◌, List, ◌∷◌, ◌++◌}
use Rattle.lab_table.specs.Table.{Table}
use Rattle.lab_table.specs.declared.statement.Statement.{Statement}
use Rattle.lab_history.specs.declared.operation.Op.{Op}
use Rattle.lab_engine.specs.declared.event.Level.{Level}
use Rattle.lab_engine.specs.Log.{Past, Txn, commits, sight}
use Rattle.lab_engine.specs.Laws.{Untouched, RanAt}
use Rattle.lab_engine.specs.RecordingLaws.{as_of}

-- nobody who committed after base, and before the transaction that ran a statement, changed what the statement matches
pub record StaysTrue (setup : Table) (s : Statement) (earlier base : List Txn) : Type 0 where
  pub since : List Txn
  pub since_is : earlier ≡ since ++ base
  pub untouched : Untouched setup s since base

-- the law of stable reads: each operation of a committed transaction stays true from what it saw up to the commit
abbrev pub ReadsStable : Level → Table → Past → Type 0
ReadsStable level setup past = (later : List Txn) (txn : Txn) (earlier : List Txn) → commits past ≡ later ++ txn ∷ earlier
    → (front : List Op) (op : Op) (ops : List Op) → txn.ops ≡ front ++ op ∷ ops
    → (ran : RanAt level setup past earlier txn.no txn.before ops op)
    → StaysTrue setup op.statement earlier (commits (sight level ran.moment (as_of txn ops)))
