-- What is collected from a log, event by event.
use Rattle.std.specs.Prelude.{◌≡◌, ℕ, zero, suc, ◌-◌, ◌≤◌, ◌<◌, cond, Option, Some, None, option_map, List, [], ◌∷◌, ◌++◌, ⊤}
use Rattle.std.specs.Prelude as list
use Rattle.lab_table.specs.Sessions.{of_session}
use Rattle.lab_table.specs.declared.statement.Command.{Command}
use Rattle.lab_history.specs.declared.operation.Op.{Op}
use Rattle.lab_history.specs.declared.transaction.Txn.{Txn as Recorded}
use Rattle.lab_history.specs.declared.transaction.Outcome.TheVariants.{Committed as EndCommitted, Aborted as EndAborted}
use Rattle.lab_engine.specs.declared.event.Outcome.{Outcome}
use Rattle.lab_engine.specs.declared.event.Outcome.TheVariants.{Begun, Rows as Listed, Committed}
use Rattle.lab_engine.specs.declared.gathering.GatheredTxn.{GatheredTxn}
use Rattle.lab_engine.specs.declared.gathering.Gathering.{Gathering}
use Rattle.lab_engine.specs.EventQuery.{is_over}
use Rattle.lab_engine.specs.Log.{Past, Txn, active}
use Rattle.lab_engine.specs.Recording.{op_of, recorded_txns}

-- the number of a transaction
abbrev pub number_of : Option Txn → Option ℕ
number_of txn = option_map (λ t. t.no) txn

-- the number of a session's active transaction after one of its events
abbrev pub number_after : Outcome → Option ℕ → Option ℕ
number_after (Begun n) by = Some n
number_after outcome by = cond (is_over outcome) None by

-- the numbers that are kept are those of the active transactions
abbrev pub AreActive : Past → List (Option ℕ) → Type 0
AreActive past numbers = (session : ℕ) → 1 ≤ session → session ≤ 9 → of_session numbers session ≡ Some (number_of (active past session))

-- a gathered transaction as a recording has it
abbrev pub recorded : GatheredTxn → Recorded
recorded t = record { no = t.number; outcome = t.outcome; ops = t.ops.items }

-- a transaction that begins
abbrev pub new_txn : ℕ → Recorded
new_txn n = record { no = n; outcome = EndAborted; ops = [] }

-- a transaction with more operations
abbrev pub with_ops : List Op → Recorded → Recorded
with_ops ops txn = record { no = txn.no; outcome = txn.outcome; ops = txn.ops ++ ops }

-- a transaction that commits
abbrev pub committed : Recorded → Recorded
committed txn = record { no = txn.no; outcome = EndCommitted; ops = txn.ops }

-- a list with a change at a place
abbrev pub changed : {A : Type 0} → ℕ → (A → A) → List A → List A
changed place f [] = []
changed zero f (x ∷ xs) = f x ∷ xs
changed (suc place) f (x ∷ xs) = x ∷ changed place f xs

-- transactions, numbered from 1, with a change of the one with this number
abbrev pub changed_by : Option ℕ → (Recorded → Recorded) → List Recorded → List Recorded
changed_by None f txns = txns
changed_by (Some number) f txns = changed (number - 1) f txns

-- the transactions after an event by the one with this number
abbrev pub txns_after : Command → Outcome → Option ℕ → List Recorded → List Recorded
txns_after command (Begun n) by txns = txns ++ new_txn n ∷ []
txns_after command (Listed view rows writes) by txns = changed_by by (with_ops (op_of command (Listed view rows writes))) txns
txns_after command Committed by txns = changed_by by committed txns
txns_after command other by txns = txns

-- where there is a number, there are so many transactions
abbrev pub IsWithin : Option ℕ → ℕ → Type 0
IsWithin None count = ⊤
IsWithin (Some number) count = number - 1 < count

-- what is gathered agrees with the log
pub record Gathers (past : Past) (gathered : Gathering) : Type 0 where
  pub active : AreActive past gathered.active
  pub txns : list.map recorded gathered.txns.items ≡ recorded_txns past
