-- How a command goes that a session asks for.
use Rattle.std.{proofs.{Common.{◌≡◌, ◌≢◌, ℕ, refl, sym, ap, subst, ◌∙◌, Bool, true, false, ◌⊎◌, inl, inr}, lemmas.{Bool.{both_ways}, Option.{same_Some}}}, specs.Prelude.{IsSome, Option, Some, None, is_some}}
use Rattle.lab_table.specs.{Table.{Table}, declared.statement.{Statement.{Statement}, Command.{Command, TheVariants.{Begin, Commit, Abort, Run}}}}
use Rattle.lab_engine.specs.declared.event.{Level.{Level}, EngineFault.TheVariants.{DuplicateKey, OutOfRange, Deadlock, WriteConflict, NoTransaction, AlreadyBegun, Busy, ReadConflict}, Outcome.{Outcome, TheVariants.{Begun, Rows as Listed, Committed, Aborted, Waits, Refused}}}
use Rattle.lab_engine.specs.Log.{Past, Txn, asked, active, active_after, waiting, waiting_after}
use Rattle.lab_engine.specs.Rules.{Asks, Permitted}
use Rattle.lab_engine.specs.Recording.{is_answer}
use Rattle.lab_engine.proofs.LockSteps.{none_some}

-- how a command that isn't refused as Busy goes: it is answered, or its statement waits
abbrev pub Goes : Command → Bool → Option Statement → Bool → Type 0
Goes command answered waits runs = ((answered ≡ true) × (waits ≡ None)) ⊎ ((s : Statement) × (answered ≡ false) × (command ≡ Run s) × (waits ≡ Some s) × (runs ≡ true))

-- an outcome that isn't Busy
module _ (level : Level) (setup : Table) (past : Past) (session : ℕ) (command : Command) where
  pub goes : (outcome : Outcome) → Permitted level setup past session command outcome → outcome ≢ Refused Busy
      → Goes command (is_answer outcome) (waiting_after command outcome (waiting past session)) (is_some (active_after command outcome past (active past session)))
  goes (Begun n) p apart = inl (refl, refl)
  goes (Listed view rows writes) p apart = inl (refl, refl)
  goes Committed p apart = inl (refl, refl)
  goes Aborted p apart = inl (refl, refl)
  goes (Waits on) p apart = let asks = p.2 in inr (p.0, refl, asks.command_is, ap asked asks.command_is, ap is_some asks.active_is)
  goes (Refused (DuplicateKey id)) p apart = inl (refl, refl)
  goes (Refused (OutOfRange id)) p apart = inl (refl, refl)
  goes (Refused (Deadlock circle)) p apart = inl (refl, refl)
  goes (Refused (WriteConflict row by)) p apart = inl (refl, refl)
  goes (Refused NoTransaction) p apart = inl (refl, refl)
  goes (Refused AlreadyBegun) p apart = inl (refl, refl)
  goes (Refused Busy) p apart = absurd (apart refl)
  goes (Refused (ReadConflict row by)) p apart = inl (refl, refl)

  -- a session that isn't waiting isn't answered Busy
  pub not_busy : (outcome : Outcome) → Permitted level setup past session command outcome → waiting past session ≡ None → outcome ≢ Refused Busy
  not_busy outcome p rest same = both_ways _ (ap is_some rest) (subst (Permitted level setup past session command) same p)

  -- a command that is asked while a statement waits is that statement
  asked_again : (s t : Statement) (txn : Txn) → waiting past session ≡ Some s → Asks past session command t txn → command ≡ Run s
  asked_again s t txn is asks = by_may asks.may_ask
    where
      by_may : ((waiting past session ≡ None) ⊎ (waiting past session ≡ Some t)) → command ≡ Run s
      by_may (inl none) = none_some _ (sym none ∙ is)
      by_may (inr same) = asks.command_is ∙ ap Run (same_Some t s (sym same ∙ is))

  -- the command of a retry is the statement that waits
  pub retried : (outcome : Outcome) (s : Statement) → waiting past session ≡ Some s → is_some (active past session) ≡ true → Permitted level setup past session command outcome
      → outcome ≢ Refused Busy → command ≡ Run s
  retried (Begun n) s is runs p apart = absurd (both_ways _ (ap is_some p.1) runs)
  retried (Listed view rows writes) s is runs p apart = asked_again s p.0 p.1 is p.2
  retried Committed s is runs p apart = none_some _ (sym p.1.at_rest ∙ is)
  retried Aborted s is runs p apart = none_some _ (sym p.1.at_rest ∙ is)
  retried (Waits on) s is runs p apart = asked_again s p.0 p.1 is p.2
  retried (Refused (DuplicateKey id)) s is runs p apart = asked_again s p.0 p.1 is p.2
  retried (Refused (OutOfRange id)) s is runs p apart = asked_again s p.0 p.1 is p.2
  retried (Refused (Deadlock circle)) s is runs p apart = asked_again s p.0 p.1 is p.2
  retried (Refused (WriteConflict row by)) s is runs p apart = none_some _ (sym p.1.at_rest ∙ is)
  retried (Refused NoTransaction) s is runs p apart = absurd (both_ways _ (ap is_some p.0) runs)
  retried (Refused AlreadyBegun) s is runs p apart = none_some _ (sym p.1.at_rest ∙ is)
  retried (Refused Busy) s is runs p apart = absurd (apart refl)
  retried (Refused (ReadConflict row by)) s is runs p apart = none_some _ (sym p.1.at_rest ∙ is)

  -- an abort of an active session that isn't waiting is answered so
  pub aborted : (outcome : Outcome) → command ≡ Abort → waiting past session ≡ None → IsSome (active past session) → Permitted level setup past session command outcome → outcome ≡ Aborted
  aborted (Begun n) is rest runs p = let not : Abort ≡ Begin = sym is ∙ p.0 in cc
  aborted (Listed view rows writes) is rest runs p = let asks = p.2 in let not : Abort ≡ Run p.0 = sym is ∙ asks.command_is in cc
  aborted Committed is rest runs p = let not : Abort ≡ Commit = sym is ∙ p.1.command_is in cc
  aborted Aborted is rest runs p = refl
  aborted (Waits on) is rest runs p = let asks = p.2 in let not : Abort ≡ Run p.0 = sym is ∙ asks.command_is in cc
  aborted (Refused (DuplicateKey id)) is rest runs p = let asks = p.2 in let not : Abort ≡ Run p.0 = sym is ∙ asks.command_is in cc
  aborted (Refused (OutOfRange id)) is rest runs p = let asks = p.2 in let not : Abort ≡ Run p.0 = sym is ∙ asks.command_is in cc
  aborted (Refused (Deadlock circle)) is rest runs p = let asks = p.2 in let not : Abort ≡ Run p.0 = sym is ∙ asks.command_is in cc
  aborted (Refused (WriteConflict row by)) is rest runs p = let not : Abort ≡ Commit = sym is ∙ p.1.command_is in cc
  aborted (Refused NoTransaction) is rest runs p = absurd (both_ways _ (ap is_some p.0) runs)
  aborted (Refused AlreadyBegun) is rest runs p = let not : Abort ≡ Begin = sym is ∙ p.1.command_is in cc
  aborted (Refused Busy) is rest runs p = absurd (both_ways _ (ap is_some rest) p)
  aborted (Refused (ReadConflict row by)) is rest runs p = let not : Abort ≡ Commit = sym is ∙ p.1.command_is in cc
