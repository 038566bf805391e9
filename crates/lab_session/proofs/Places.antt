-- A seat's list has a place for the call that ends what its last answer left active.
use Rattle.std.{proofs.{Common.{◌≡◌, ◌≢◌, ℕ, ◌<◌, ◌≤◌, ◌+◌, ◌++◌, length, length-append, refl, sym, ap, subst, ◌∙◌, arith, true, false, List, [], ◌∷◌, inl, inr}, lemmas.{Bool.{both_ways}, Option.{same_Some}}}, specs.Prelude.{Bool, IsTrue, ◌↔◌, IsSome, is_some, None}}
use Rattle.lab_table.specs.{Table.{Table}, declared.statement.{Statement.{Statement}, Command.{Command, TheVariants.{Begin, Commit, Abort, Run}}}}
use Rattle.lab_engine.specs.declared.event.{Level.{Level}, EngineFault.TheVariants.{DuplicateKey, OutOfRange, Deadlock, WriteConflict, NoTransaction, AlreadyBegun, Busy, ReadConflict}, Outcome.{Outcome, TheVariants.{Begun, Rows as Listed, Committed, Aborted, Waits, Refused}}}
use Rattle.lab_engine.specs.Log.{Past, active, waiting}
use Rattle.lab_engine.specs.Rules.{Permitted}
use Rattle.lab_engine.specs.Engine.{Ends}
use Rattle.lab_session.{specs.{declared.seat.Call.{Call}, Seats.{last_outcome, IsOpen}}, proofs.Turning.{last_is}}
use Rattle.lab_engine.specs.EventQuery.{is_over}

-- the same calls, with no less room
pub roomy : (old new : List Call) (had has : ℕ) → new ≡ old → had ≤ has → (IsOpen old → length old < had) → IsOpen new → length new < has
roomy old new had has same more place is_open =
    let free : length old < had = place (subst IsOpen same is_open) in
    omega (arith, free, more, ap length same)

-- one more call, behind which there is room where it ends no transaction
pub placed : (old new : List Call) (call : Call) (has : ℕ) → new ≡ old ++ call ∷ [] → (is_over call.receipt.outcome ≡ false → length old + 1 < has) → IsOpen new → length new < has
placed old new call has is room (outcome, last, going) =
    let same : call.receipt.outcome ≡ outcome = same_Some call.receipt.outcome outcome (sym (last_is old call) ∙ ap last_outcome (sym is) ∙ last) in
    let free : length old + 1 < has = room (ap is_over same ∙ going) in
    omega (arith, free, ap length is, length-append old (call ∷ []))

-- what is neither a begin nor a statement is answered by an end, where a transaction is active and nothing waits
module _ (level : Level) (setup : Table) (past : Past) (session : ℕ) (command : Command) (not_begin : command ≢ Begin) (not_run : (s : Statement) → command ≢ Run s) where
  answered : (outcome : Outcome) → waiting past session ≡ None → IsSome (active past session) → Permitted level setup past session command outcome → is_over outcome ≡ true
  answered (Begun n) rest runs p = absurd (not_begin p.0)
  answered (Listed view rows writes) rest runs p = absurd (not_run p.0 p.2.command_is)
  answered Committed rest runs p = refl
  answered Aborted rest runs p = refl
  answered (Waits on) rest runs p = absurd (not_run p.0 p.2.command_is)
  answered (Refused (DuplicateKey id)) rest runs p = refl
  answered (Refused (OutOfRange id)) rest runs p = refl
  answered (Refused (Deadlock circle)) rest runs p = refl
  answered (Refused (WriteConflict row by)) rest runs p = refl
  answered (Refused NoTransaction) rest runs p = absurd (both_ways _ (ap is_some p.0) runs)
  answered (Refused AlreadyBegun) rest runs p = absurd (not_begin p.1.command_is)
  answered (Refused Busy) rest runs p = absurd (both_ways _ (ap is_some rest) p)
  answered (Refused (ReadConflict row by)) rest runs p = refl

-- what ends a transaction is answered by an end
pub ended : (level : Level) (setup : Table) (past : Past) (session : ℕ) (command : Command) (outcome : Outcome) → Ends past session command → Permitted level setup past session command outcome
    → is_over outcome ≡ true
ended level setup past session command outcome ends permitted = elim ends.command_is [
  | inl is ↦ answered level setup past session command (λ begin. let not : Commit ≡ Begin = sym is ∙ begin in cc) (λ s run. let not : Commit ≡ Run s = sym is ∙ run in cc) outcome ends.at_rest ends.active_is permitted
  | inr is ↦ answered level setup past session command (λ begin. let not : Abort ≡ Begin = sym is ∙ begin in cc) (λ s run. let not : Abort ≡ Run s = sym is ∙ run in cc) outcome ends.at_rest ends.active_is permitted
]

-- a command that isn't answered by an end was none
pub no_end : (level : Level) (setup : Table) (past : Past) (session : ℕ) (command : Command) (outcome : Outcome) (ends : Bool) → (IsTrue ends ↔ Ends past session command)
    → Permitted level setup past session command outcome → is_over outcome ≡ false → ends ≡ false
no_end level setup past session command outcome false is permitted going = refl
no_end level setup past session command outcome true is permitted going = absurd (both_ways _ going (ended level setup past session command outcome (is.0 refl) permitted))
