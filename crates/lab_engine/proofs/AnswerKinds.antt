-- What an answer may be, by who gives the command, and which.
use Rattle.lab_engine.proofs.Common.{Abort, Aborted, active, AlreadyBegun, Answers, ap, Begin, Begun, begun, BlockedBy, Busy, Command, Commit, Committed, conflict_fault, ConflictKind, Contains, Deadlock, DuplicateKey, fails, false, inl, inr, IsBelow, IsCircle, IsEffect, IsFirstConflict, IsFree, IsInsertOf, IsLeastCircle, IsStrictlyIncreasing, IsTrue, IsUpdate, Level, List, Listed, MayCommit, None, NoTransaction, Outcome, OutOfRange, Past, Read, ReadConflict, refl, Refused, Row, Rows, Run, seen, Some, Statement, subst, sym, Table, Txn, View, Waits, Write, WriteConflict, Writes, [], ℕ, ◌+◌, ◌↔◌, ◌≡◌, ◌≢◌, ◌⊎◌}

-- a row is the least at which an update fails
pub record IsFirstFailing (level : Level) (setup : Table) (past : Past) (txn : Txn) (s : Statement) (row : Row) : Type 0 where
  pub update : IsUpdate s
  pub there : IsTrue (fails s row (seen level setup past txn row).state)
  pub least : (other : Row) → IsBelow other row → fails s other (seen level setup past txn other).state ≡ false

-- to a statement that nobody blocks
abbrev pub FreeAnswer : Level → Table → Past → Txn → Statement → Outcome → Type 0
FreeAnswer level setup past txn s outcome = ((view : View) × (rows : Rows) × (writes : Writes) × IsEffect level setup past txn s view rows writes × (outcome ≡ Listed view rows writes))
    ⊎ ((row : Row) × IsInsertOf row s × IsTrue (fails s row (seen level setup past txn row).state) × (outcome ≡ Refused (DuplicateKey row)))
    ⊎ ((row : Row) × IsFirstFailing level setup past txn s row × (outcome ≡ Refused (OutOfRange row)))

-- these are all sessions that block a statement, and there are some
pub record AreAllBlockers (level : Level) (setup : Table) (past : Past) (session : ℕ) (s : Statement) (on : List ℕ) : Type 0 where
  pub rising : IsStrictlyIncreasing on
  pub are : (other : ℕ) → Contains on other ↔ BlockedBy level setup past session s other
  pub some : on ≢ []
  pub no_circle : (circle : List ℕ) → ¬ IsCircle level setup past session s circle

-- to one that somebody blocks
abbrev pub HeldAnswer : Level → Table → Past → ℕ → Statement → Outcome → Type 0
HeldAnswer level setup past session s outcome = ((on : List ℕ) × AreAllBlockers level setup past session s on × (outcome ≡ Waits on))
    ⊎ ((circle : List ℕ) × IsLeastCircle level setup past session s circle × (outcome ≡ Refused (Deadlock circle)))

-- to a command of an active transaction
abbrev pub TxnAnswer : Level → Table → Past → ℕ → Txn → Command → Outcome → Type 0
TxnAnswer level setup past session txn Begin outcome = outcome ≡ Refused AlreadyBegun
TxnAnswer level setup past session txn Commit outcome = (MayCommit level setup past txn × (outcome ≡ Committed))
    ⊎ ((kind : ConflictKind) × (row : Row) × (by : ℕ) × IsFirstConflict level setup past txn kind row by × (outcome ≡ Refused (conflict_fault kind row by)))
TxnAnswer level setup past session txn Abort outcome = outcome ≡ Aborted
TxnAnswer level setup past session txn (Run s) outcome = (IsFree level setup past session s × FreeAnswer level setup past txn s outcome) ⊎ HeldAnswer level setup past session s outcome

-- to one of a session without
abbrev pub IdleAnswer : Past → Command → Outcome → Type 0
IdleAnswer past command outcome = ((command ≡ Begin) × (outcome ≡ Begun (begun past + 1))) ⊎ ((command ≢ Begin) × (outcome ≡ Refused NoTransaction))

-- an answer is one of these
abbrev pub KnownAnswer : Level → Table → Past → ℕ → Command → Outcome → Type 0
KnownAnswer level setup past session command outcome = ((active past session ≡ None) × IdleAnswer past command outcome)
    ⊎ ((txn : Txn) × (active past session ≡ Some txn) × TxnAnswer level setup past session txn command outcome)

module _ (level : Level) (setup : Table) (past : Past) (session : ℕ) (command : Command) where
  -- to what an active transaction gives
  of_txn : (given : Command) (txn : Txn) (outcome : Outcome) → command ≡ given → active past session ≡ Some txn → TxnAnswer level setup past session txn given outcome
      → KnownAnswer level setup past session command outcome
  of_txn given txn outcome is own known = inr (txn, own, subst (λ c. TxnAnswer level setup past session txn c outcome) (sym is) known)

  pub answer_known : (outcome : Outcome) → Answers level setup past session command outcome → KnownAnswer level setup past session command outcome
  answer_known (Begun n) (p, busy, least) = inl (p.1, inl (p.0, ap Begun p.2))
  answer_known (Listed view rows writes) ((s, txn, asks, free, effect), busy, least) =
      of_txn (Run s) txn _ asks.command_is asks.active_is (inl (free, inl (view, rows, writes, effect, refl)))
  answer_known Committed ((txn, gives, may), busy, least) = of_txn Commit txn _ gives.command_is gives.active_is (inl (may, refl))
  answer_known Aborted ((txn, gives), busy, least) = of_txn Abort txn _ gives.command_is gives.active_is refl
  answer_known (Waits on) ((s, txn, asks, rising, are, some, none), busy, least) =
      of_txn (Run s) txn _ asks.command_is asks.active_is (inr (inl (on, record { rising = rising; are = are; some = some; no_circle = none }, refl)))
  answer_known (Refused (DuplicateKey row)) ((s, txn, asks, free, insert, there), busy, least) =
      of_txn (Run s) txn _ asks.command_is asks.active_is (inl (free, inr (inl (row, insert, there, refl))))
  answer_known (Refused (OutOfRange row)) ((s, txn, asks, free, update, there, first), busy, least) =
      of_txn (Run s) txn _ asks.command_is asks.active_is (inl (free, inr (inr (row, record { update = update; there = there; least = first }, refl))))
  answer_known (Refused (Deadlock circle)) ((s, txn, asks, is), busy, least) =
      of_txn (Run s) txn _ asks.command_is asks.active_is (inr (inr (circle, least s asks.command_is circle refl, refl)))
  answer_known (Refused (WriteConflict row by)) ((txn, gives, first), busy, least) = of_txn Commit txn _ gives.command_is gives.active_is (inr (Write, row, by, first, refl))
  answer_known (Refused (ReadConflict row by)) ((txn, gives, first), busy, least) = of_txn Commit txn _ gives.command_is gives.active_is (inr (Read, row, by, first, refl))
  answer_known (Refused NoTransaction) ((none, isnt), busy, least) = inl (none, inr (isnt, refl))
  answer_known (Refused AlreadyBegun) ((txn, gives), busy, least) = of_txn Begin txn _ gives.command_is gives.active_is refl
  answer_known (Refused Busy) (p, busy, least) = absurd (busy refl)
