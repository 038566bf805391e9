-- What the first row that was taken says of a commit at snapshot.
use Rattle.std.proofs.Common.{refl, Option, Some, None, MatchOption}
use Rattle.lab_engine.{proofs.{Common.{Table, Past, Txn, MayCommit}, TakenRows.{first_by_write}}, specs.{declared.{event.Level.TheVariants.{Snapshot}, rules.Conflict.{Conflict}}, Rules.{IsFirstConflict}, Taken.{IsFirstTaken}}}

-- a transaction may commit, or it is its first conflict
pub taken_answers : (setup : Table) (past : Past) (txn : Txn) (found : Option Conflict) → IsFirstTaken past txn found
    → MatchOption found (MayCommit Snapshot setup past txn) (λ c. IsFirstConflict Snapshot setup past txn c.kind c.row c.by)
taken_answers setup past txn None first = (first, tt)
taken_answers setup past txn (Some c) taken = first_by_write Snapshot setup past txn c refl taken (λ _ _ _ clash. clash)
