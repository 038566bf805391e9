-- What is found among the statements of an active transaction says whether what it has read stands.
use Rattle.std.proofs.Common.{◌≡◌, ℕ, refl, sym, ap, ◌∙◌, Bool, true, cond, ◌||◌, List, [], reverse, map, Option, Some, None}
use Rattle.lab_engine.proofs.{Common.{get, Row, State, Statement, Past, Txn, commits, has_read as has_run, keeps_statements, IsAsker}, Holding.{any_read}}
use Rattle.lab_engine.specs.{declared.{asker.Asker.{Asker}, event.Level.{Level}, rules.Conflict.{Conflict}}, Rules.{NoneChangesRead}}
use Rattle.lab_optimistic.{specs.{Changes.{has_read, has_read_either, first_change}, Reads.{change_at, IsLeastRead, IsFirstRead}}, proofs.{ChangedRows.{SinceThen, since_begin, first_changing}, ReadConflicts.{reads, none_did, conflicts, no_conflict}}}

module _ (level : Level) (keeps : keeps_statements level ≡ true) (past : Past) (txn : Txn) (asker : Asker) (asks : IsAsker level past txn asker) where
  abbrev ran : List Statement
  ran = asker.running.now.statements.items

  ran_is : ran ≡ reverse (map (λ op. op.statement) txn.ops)
  ran_is = asks.running.statements ∙ ap (λ b. cond b (reverse (map (λ op. op.statement) txn.ops)) []) keeps

  reads_is : (row : Row) (old new : State) → has_read_either asker row old new ≡ reads asker.setup.now txn row old new
  reads_is row old new =
      ap (λ b. b || has_read asker row new) (any_read ran txn.ops row old ran_is)
      ∙ ap (λ b. has_run txn.ops row old || b) (any_read ran txn.ops row new ran_is)

  begun_then : SinceThen past txn.before
  begun_then = since_begin past asker.session txn asks.active

  -- who is found is the first of those that have committed since
  change_is : (row : Row) → change_at asker row ≡ first_changing asker.setup.now row (reads asker.setup.now txn row) begun_then.since (commits txn.before)
  change_is row =
      (λ i. first_change (λ old new. reads_is row old new i) (get asker.setup.now row) (asks.running.before i) (asks.situation.rows.chains row i))
      ∙ begun_then.first_is asker.setup.now row (reads asker.setup.now txn row)

  -- nobody changed it
  unread : (row : Row) → change_at asker row ≡ None → NoneChangesRead asker.setup.now txn begun_then.since (commits txn.before) row
  unread row none = none_did asker.setup.now txn row begun_then.since (commits txn.before) (sym (change_is row) ∙ none)

  -- so the conflict at the least row that it has read is the first by what was read
  pub first_found : (found : Option Conflict) → IsLeastRead asker found → IsFirstRead asker.setup.now past txn found
  first_found None h = (begun_then.since, begun_then.commits_are, λ row. unread row (h row refl))
  first_found (Some c) h = (
    h.0,
    conflicts asker.setup.now txn c.row past begun_then.since begun_then.commits_are c.by (sym (change_is c.row) ∙ h.1),
    λ other number below. no_conflict asker.setup.now txn other past begun_then.since begun_then.commits_are number (unread other (h.2 other below refl)),
  )
