-- Every command of a play prints, where those of its script do.
use Rattle.std.proofs.{Common.{◌≡◌, ◌≢◌, ◌⊎◌, ⊎_elim, inl, inr, ℕ, zero, suc, refl, sym, ap, subst, ◌∙◌, Bool, true, false, cond, List, [], ◌∷◌, ◌++◌, reverse, arith}, lemmas.{Bool.{both_ways, Decides.{eqb_tells}}, List.{reverse-append, reverse-reverse}, Option.{same_Some}}}
use Rattle.std.specs.Prelude.{◌==◌, Option, Some, None, is_some, nat_lt, ◌||◌, Contains}
use Rattle.lab_table.specs.{Table.{Table}, declared.statement.{Statement.{Statement}, Command.{Command, TheVariants.{Begin, Commit, Abort, Run}}}}
use Rattle.lab_script.specs.{declared.script.{Line.{Line as ScriptLine}, Script.{Script}}, Limits.{ScriptPrints, AllPrint as LinesPrint}}
use Rattle.lab_printing.specs.Limits.{CommandPrints, StatementPrints, IsDeep, IsLong}
use Rattle.lab_engine.specs.declared.event.{Level.{Level}, EngineFault.TheVariants.{DuplicateKey, OutOfRange, Deadlock, WriteConflict, NoTransaction, AlreadyBegun, Busy, ReadConflict}, Outcome.{Outcome, TheVariants.{Begun, Rows as Listed, Committed, Aborted, Waits, Refused}}, LogEvent.{LogEvent}}
use Rattle.lab_engine.specs.Log.{Past, Txn, active, active_after, waiting, waiting_after}
use Rattle.lab_engine.specs.Rules.{Asks, Permitted, IsLegal}
use Rattle.lab_engine.specs.Recording.{Line, given, lines_by, next_line, FollowsScript, AllFollowScript}
use Rattle.lab_engine.proofs.LockSteps.{none_some}
use Rattle.lab_session.{specs.{LogText.{AllPrint, SomeEvent}, Play.{given_lines, IsLegalPlay}}, proofs.ScriptsPrint.{not_deep, not_long}}

-- ---- what waits

-- a statement that waits after an event was asked by it, or waited before
module _ (s : Statement) (before : Option Statement) (keeps : before ≡ Some s → StatementPrints s) where
  asked_prints : (command : Command) → CommandPrints command → waiting_after command (Waits []) before ≡ Some s → StatementPrints s
  asked_prints Begin prints is = none_some _ is
  asked_prints Commit prints is = none_some _ is
  asked_prints Abort prints is = none_some _ is
  asked_prints (Run t) prints is = subst StatementPrints (same_Some t s is) prints

  after_prints : (command : Command) (outcome : Outcome) → CommandPrints command → waiting_after command outcome before ≡ Some s → StatementPrints s
  after_prints command (Begun n) prints is = none_some _ is
  after_prints command (Listed view rows writes) prints is = none_some _ is
  after_prints command Committed prints is = none_some _ is
  after_prints command Aborted prints is = none_some _ is
  after_prints command (Waits on) prints is = asked_prints command prints is
  after_prints command (Refused (DuplicateKey id)) prints is = none_some _ is
  after_prints command (Refused (OutOfRange id)) prints is = none_some _ is
  after_prints command (Refused (Deadlock circle)) prints is = none_some _ is
  after_prints command (Refused (WriteConflict row by)) prints is = none_some _ is
  after_prints command (Refused NoTransaction) prints is = none_some _ is
  after_prints command (Refused AlreadyBegun) prints is = none_some _ is
  after_prints command (Refused Busy) prints is = keeps is
  after_prints command (Refused (ReadConflict row by)) prints is = none_some _ is

-- a statement that waits prints, where all commands so far do
waiting_prints : (past : Past) (session : ℕ) (s : Statement) → AllPrint past → waiting past session ≡ Some s → StatementPrints s
waiting_prints [] session s all is = none_some _ is
waiting_prints (event ∷ past) session s all is = by (waiting_prints past session s all.1) (event.session == session) is
  where
    by : (waiting past session ≡ Some s → StatementPrints s) → (b : Bool)
        → cond b (waiting_after event.command event.outcome (waiting past session)) (waiting past session) ≡ Some s → StatementPrints s
    by before true is = after_prints s (waiting past session) before event.command event.outcome all.0 is
    by before false is = before is

-- ---- the command of each event

module _ (past : Past) (session : ℕ) (command : Command) (all : AllPrint past) where
  named_prints : (given : Command) → CommandPrints given → command ≡ given → CommandPrints command
  named_prints given prints is = subst CommandPrints (sym is) prints

  -- a command that is asked while a statement waits is that statement
  asks_prints : (s t : Statement) (txn : Txn) → waiting past session ≡ Some s → Asks past session command t txn → CommandPrints command
  asks_prints s t txn waits asks = by_may asks.may_ask
    where
      by_may : ((waiting past session ≡ None) ⊎ (waiting past session ≡ Some t)) → CommandPrints command
      by_may (inl none) = none_some _ (sym none ∙ waits)
      by_may (inr same) = named_prints (Run t) (waiting_prints past session t all same) asks.command_is

-- a session whose statement waits has a transaction
module _ (level : Level) (setup : Table) (past : Past) (session : ℕ) (s : Statement) (command : Command) (before : waiting past session ≡ Some s → is_some (active past session) ≡ true) where
  after_waits : (outcome : Outcome) → Permitted level setup past session command outcome → waiting_after command outcome (waiting past session) ≡ Some s
      → is_some (active_after command outcome past (active past session)) ≡ true
  after_waits (Begun n) p is = none_some _ is
  after_waits (Listed view rows writes) p is = none_some _ is
  after_waits Committed p is = none_some _ is
  after_waits Aborted p is = none_some _ is
  after_waits (Waits on) p is = let asks = p.2 in ap is_some asks.active_is
  after_waits (Refused (DuplicateKey id)) p is = none_some _ is
  after_waits (Refused (OutOfRange id)) p is = none_some _ is
  after_waits (Refused (Deadlock circle)) p is = none_some _ is
  after_waits (Refused (WriteConflict row by)) p is = none_some _ is
  after_waits (Refused NoTransaction) p is = none_some _ is
  after_waits (Refused AlreadyBegun) p is = none_some _ is
  after_waits (Refused Busy) p is = before is
  after_waits (Refused (ReadConflict row by)) p is = none_some _ is

waits_active : (level : Level) (setup : Table) (past : Past) → IsLegal level setup past → (session : ℕ) (s : Statement) → waiting past session ≡ Some s → is_some (active past session) ≡ true
waits_active level setup [] legal session s is = none_some _ is
waits_active level setup (event ∷ past) legal session s is = elim (eqb_tells event.session session) [
  | inl p ↦
      by_own (waits_active level setup past legal.0 session s) p.1 (subst (λ b. cond b (waiting_after event.command event.outcome (waiting past session)) (waiting past session) ≡ Some s) p.0 is) p.0
  | inr p ↦ subst (λ b. is_some (cond b (active_after event.command event.outcome past (active past session)) (active past session)) ≡ true) (sym p.0)
      (waits_active level setup past legal.0 session s (subst (λ b. cond b (waiting_after event.command event.outcome (waiting past session)) (waiting past session) ≡ Some s) p.0 is))
]
  where
    by_own : (waiting past session ≡ Some s → is_some (active past session) ≡ true) → event.session ≡ session
        → waiting_after event.command event.outcome (waiting past session) ≡ Some s → (event.session == session) ≡ true
        → is_some (cond (event.session == session) (active_after event.command event.outcome past (active past session)) (active past session)) ≡ true
    by_own before same held own = subst (λ b. is_some (cond b (active_after event.command event.outcome past (active past session)) (active past session)) ≡ true) (sym own)
        (after_waits level setup past session s event.command before event.outcome
        (subst (λ k. Permitted level setup past k event.command event.outcome) same legal.1) held)

-- the command of a retry prints
module _ (level : Level) (setup : Table) (past : Past) (session : ℕ) (command : Command) (all : AllPrint past) (s : Statement) (waits : waiting past session ≡ Some s)
    (runs : is_some (active past session) ≡ true) where
  retried_prints : (outcome : Outcome) → Permitted level setup past session command outcome → outcome ≢ Refused Busy → CommandPrints command
  retried_prints (Begun n) p apart = absurd (both_ways _ (ap is_some p.1) runs)
  retried_prints (Listed view rows writes) p apart = asks_prints past session command all s p.0 p.1 waits p.2
  retried_prints Committed p apart = none_some _ (sym p.1.at_rest ∙ waits)
  retried_prints Aborted p apart = none_some _ (sym p.1.at_rest ∙ waits)
  retried_prints (Waits on) p apart = asks_prints past session command all s p.0 p.1 waits p.2
  retried_prints (Refused (DuplicateKey id)) p apart = asks_prints past session command all s p.0 p.1 waits p.2
  retried_prints (Refused (OutOfRange id)) p apart = asks_prints past session command all s p.0 p.1 waits p.2
  retried_prints (Refused (Deadlock circle)) p apart = asks_prints past session command all s p.0 p.1 waits p.2
  retried_prints (Refused (WriteConflict row by)) p apart = none_some _ (sym p.1.at_rest ∙ waits)
  retried_prints (Refused NoTransaction) p apart = absurd (both_ways _ (ap is_some p.0) runs)
  retried_prints (Refused AlreadyBegun) p apart = none_some _ (sym p.1.at_rest ∙ waits)
  retried_prints (Refused Busy) p apart = absurd (apart refl)
  retried_prints (Refused (ReadConflict row by)) p apart = none_some _ (sym p.1.at_rest ∙ waits)

-- the next line of a script prints
line_prints : (past : Past) (passed : List Line) (lines : List ScriptLine) (line : Line) → LinesPrint lines → next_line past passed (given_lines lines) ≡ Some line → CommandPrints line.1
line_prints past passed [] line all is = none_some _ is
line_prints past passed (first ∷ lines) line all is =
    by (line_prints past ((first.session, first.command) ∷ passed) lines line all.1) (is_some (waiting past first.session) || nat_lt (lines_by first.session passed) (given past first.session)) is
  where
    by : (next_line past ((first.session, first.command) ∷ passed) (given_lines lines) ≡ Some line → CommandPrints line.1) → (b : Bool)
        → cond b (next_line past ((first.session, first.command) ∷ passed) (given_lines lines)) (Some (first.session, first.command)) ≡ Some line → CommandPrints line.1
    by later true is = later is
    by later false is = subst (λ (l : Line). CommandPrints l.1) (same_Some (first.session, first.command) line is) all.0

-- the commands of a legal log that follows a script so far
all_print : (level : Level) (setup : Table) (lines : List ScriptLine) (past : Past) → LinesPrint lines → IsLegal level setup past → AllFollowScript level setup (given_lines lines) past → AllPrint past
all_print level setup lines [] print legal follows = tt
all_print level setup lines (event ∷ past) print legal follows =
    let before : AllPrint past = all_print level setup lines past print legal.0 follows.0 in (by_next before follows.1, before)
  where
    by_next : AllPrint past → FollowsScript level setup (given_lines lines) past event → CommandPrints event.command
    by_next before (inl (least, apart)) =
        let held = least.0 in
        retried_prints level setup past event.session event.command before held.0 held.1 (waits_active level setup past legal.0 event.session held.0 held.1) event.outcome legal.1 apart
    by_next before (inr (inl (none, next))) = line_prints past [] lines (event.session, event.command) print next
    by_next before (inr (inr (none, next, idle, is))) = named_prints past event.session event.command before Abort tt is

-- ---- the log

append_print : (xs ys : List LogEvent) → AllPrint xs → AllPrint ys → AllPrint (xs ++ ys)
append_print [] ys first last = last
append_print (x ∷ xs) ys first last = (first.0, append_print xs ys first.1 last)

reverse_print : (xs : List LogEvent) → AllPrint xs → AllPrint (reverse xs)
reverse_print [] all = tt
reverse_print (x ∷ xs) all = subst AllPrint (sym (reverse-append (x ∷ []) xs)) (append_print (reverse xs) (x ∷ []) (reverse_print xs all.1) (all.0, tt))

each_prints : (log : List LogEvent) (event : LogEvent) → AllPrint log → Contains log event → CommandPrints event.command
each_prints [] event all (k, few, is) = absurd (omega (arith, few))
each_prints (x ∷ log) event all (zero, few, is) = subst (λ (e : LogEvent). CommandPrints e.command) is all.0
each_prints (x ∷ log) event all (suc k, few, is) = each_prints log event all.1 (k, omega (arith, few), is)

-- the commands of a play print, where those of its script do
play_prints : (level : Level) (script : Script) (log : List LogEvent) → ScriptPrints script → IsLegalPlay level script.setup (given_lines script.lines) log → AllPrint log
play_prints level script log prints play =
    subst AllPrint (reverse-reverse log) (reverse_print (reverse log) (all_print level script.setup script.lines (reverse log) prints.lines play.legal play.scripted.follows))

-- so a play has no event that is too deep or too long to print
pub play_is_told : (level : Level) (script : Script) (log : List LogEvent) → ScriptPrints script → IsLegalPlay level script.setup (given_lines script.lines) log → SomeEvent IsDeep log ⊎ SomeEvent IsLong log → ⊥
play_is_told level script log prints play =
    let all : AllPrint log = play_prints level script log prints play in
    ⊎_elim
    (λ some. not_deep some.event.command (each_prints log some.event all some.stands) some.is)
    (λ some. not_long some.event.command (each_prints log some.event all some.stands) some.is)
