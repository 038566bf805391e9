-- A list with one more call; a command that isn't answered waits; of those to be retried there is one least, and it is answered.
use Rattle.std.proofs.{Common.{◌≡◌, ◌≢◌, ℕ, ◌<◌, ◌-◌, ◌++◌, length, length-append, refl, sym, ap, subst, ◌∙◌, arith, true, false, List, [], ◌∷◌, ◌⊎◌, inl, inr}, lemmas.{Bool.{both_ways, eq-eqb}, Option.{same_Some}}}
use Rattle.std.specs.Prelude.{IsSome, is_some, cond, Option, Some, None, option_map, Contains, MatchOption, slice_get}
use Rattle.lab_table.{specs.{Table.{Table}, declared.statement.{Statement.{Statement}, Command.{Command, TheVariants.{Run}}}}, proofs.{Members.{first_member}, Tests.{slice_get-middle}}}
use Rattle.lab_engine.specs.declared.event.{Level.{Level}, EngineFault.TheVariants.{Busy}, Outcome.{Outcome, TheVariants.{Begun, Rows as Listed, Committed, Aborted, Waits, Refused}}, LogEvent.{LogEvent}}
use Rattle.lab_engine.specs.Log.{Past, past_of, asked, waiting}
use Rattle.lab_engine.specs.Rules.{BlockedBy, IsFree, IsCircle, Permitted}
use Rattle.lab_engine.specs.Engine.{Appends, IsStep, IsRetry}
use Rattle.lab_engine.specs.Recording.{is_answer, NoneRetryable, IsLeastRetryable}
use Rattle.lab_engine.proofs.{LockSteps.{none_some}, Runs.{past_of-push}}
use Rattle.lab_session.specs.{declared.{bench.Receipt.{Receipt}, seat.Call.{Call}}, Seats.{Seated, IsLogged, GrowsBy, last_outcome}}
use Rattle.lab_engine.specs.Journal.{EngineRun}

-- what the last of the calls was answered
pub last_is : (calls : List Call) (call : Call) → last_outcome (calls ++ call ∷ []) ≡ Some call.receipt.outcome
last_is calls call =
    let last : length (calls ++ call ∷ []) - 1 ≡ length calls = omega (arith, length-append calls (call ∷ [])) in
    ap (option_map (λ (c : Call). c.receipt.outcome)) (ap (slice_get (calls ++ call ∷ [])) last ∙ slice_get-middle calls call [])

-- a seat whose list has one more answered call
pub grown : (seat : Seated) (command : Command) (receipt : Receipt) (before calls : List Call) (holds : Option Command) → before ≡ seat.calls
    → calls ≡ before ++ record { command = command; receipt = receipt } ∷ [] → is_answer receipt.outcome ≡ true
    → GrowsBy seat (record { session = seat.session; calls = calls; holds = holds }) command receipt
grown seat command receipt before calls holds same is answered =
    let call : Call = record { command = command; receipt = receipt } in
    let all : calls ≡ seat.calls ++ call ∷ [] = is ∙ ap (λ l. l ++ call ∷ []) same in
    record { session = refl; calls = all; answered = answered; reply = ap last_outcome all ∙ last_is seat.calls call }

-- the receipt of an event that was appended in a lab
pub logged : (Runs : EngineRun → Type 0) (level : Level) (setup : Table) (old : List LogEvent) (new : EngineRun) (session : ℕ) (command : Command) (receipt : Receipt)
    → Appends level setup old new.log session command receipt.outcome → receipt.place ≡ length new.log → Runs new → IsLogged Runs session receipt
logged Runs level setup old new session command receipt appends place of_lab = record {
  run = new;
  of_lab = of_lab;
  earlier = old;
  event = record { session = session; command = command; outcome = receipt.outcome };
  log_is = appends.0;
  place_is = place;
  session_is = refl;
  outcome_is = refl;
}

-- only one session is the least
one_least : (level : Level) (setup : Table) (past : Past) (session other : ℕ) → IsLeastRetryable level setup past session → IsLeastRetryable level setup past other → session ≡ other
one_least level setup past session other (may, least) (other_may, other_least) = elim (three session other) [
  | inl p ↦ absurd (other_least session p may)
  | inr (inl p) ↦ absurd (least other p other_may)
  | inr (inr p) ↦ p
]
  where
    three : (a b : ℕ) → (a < b) ⊎ (b < a) ⊎ (a ≡ b)
    three a b = grind arith

-- a session that isn't the one answered as the least isn't the least
pub not_least : (level : Level) (setup : Table) (past : Past) (session : ℕ) (found : Option ℕ) → MatchOption found (NoneRetryable level setup past) (IsLeastRetryable level setup past)
    → found ≢ Some session → ¬ IsLeastRetryable level setup past session
not_least level setup past session None none apart least = none session least.0
not_least level setup past session (Some other) is apart least = apart (ap Some (one_least level setup past other session is least))

-- a list that isn't empty has a first element
some_member : (A : Type 0) (xs : List ℕ) → xs ≢ [] → ((x : ℕ) (rest : List ℕ) → xs ≡ x ∷ rest → A) → A
some_member A [] apart then = absurd (apart refl)
some_member A (x ∷ xs) apart then = then x xs refl

-- what has nothing in its way, or is in a cycle, doesn't wait
module _ (level : Level) (setup : Table) (past : Past) (session : ℕ) (s : Statement) where
  answers : (outcome : Outcome) → Permitted level setup past session (Run s) outcome → (IsFree level setup past session s ⊎ ((circle : List ℕ) × IsCircle level setup past session s circle))
      → is_answer outcome ≡ true
  answers (Begun n) p may = refl
  answers (Listed view rows writes) p may = refl
  answers Committed p may = refl
  answers Aborted p may = refl
  answers (Waits on) (t, txn, asks, rising, blocked, some, none) may = absurd (by_may may)
    where
      same : s ≡ t
      same = same_Some s t (ap asked asks.command_is)

      by_may : (IsFree level setup past session s ⊎ ((circle : List ℕ) × IsCircle level setup past session s circle)) → ⊥
      by_may (inl free) =
          some_member ⊥ on some
          (λ x rest is. free x (subst (λ u. BlockedBy level setup past session u x) (sym same) ((blocked x).0 (subst (λ l. Contains l x) (sym is) (first_member x rest)))))
      by_may (inr circle) = none circle.0 (subst (λ u. IsCircle level setup past session u circle.0) same circle.1)
  answers (Refused fault) p may = refl

-- a command that isn't answered waits
pub unanswered_waits : (level : Level) (setup : Table) (old new : List LogEvent) (session : ℕ) (command : Command) (outcome : Outcome) → IsStep level setup old new session command outcome
    → is_answer outcome ≡ false → IsSome (waiting (past_of new) session)
unanswered_waits level setup old new session command (Begun n) step un = absurd (both_ways true un refl)
unanswered_waits level setup old new session command (Listed view rows writes) step un = absurd (both_ways true un refl)
unanswered_waits level setup old new session command Committed step un = absurd (both_ways true un refl)
unanswered_waits level setup old new session command Aborted step un = absurd (both_ways true un refl)
unanswered_waits level setup old new session command (Waits on) ((is, permitted), busy) un =
    let event : LogEvent = record { session = session; command = command; outcome = Waits on } in
    let asks = permitted.2 in
    subst (λ past. IsSome (waiting past session)) (sym (ap past_of is ∙ past_of-push old event))
    (subst (λ b. IsSome (cond b (asked command) (waiting (past_of old) session))) (sym (eq-eqb session session refl)) (ap is_some (ap asked asks.command_is)))
unanswered_waits level setup old new session command (Refused fault) step un = absurd (both_ways true un refl)

-- a command that isn't answered asks for a statement
pub unanswered_asks : (level : Level) (setup : Table) (old new : List LogEvent) (session : ℕ) (command : Command) (outcome : Outcome) → IsStep level setup old new session command outcome
    → is_answer outcome ≡ false → asked command ≢ None
unanswered_asks level setup old new session command (Begun n) step un = absurd (both_ways true un refl)
unanswered_asks level setup old new session command (Listed view rows writes) step un = absurd (both_ways true un refl)
unanswered_asks level setup old new session command Committed step un = absurd (both_ways true un refl)
unanswered_asks level setup old new session command Aborted step un = absurd (both_ways true un refl)
unanswered_asks level setup old new session command (Waits on) ((is, permitted), busy) un = λ none. none_some _ (sym none ∙ ap asked permitted.2.command_is)
unanswered_asks level setup old new session command (Refused fault) step un = absurd (both_ways true un refl)

-- what was retried isn't told Busy
pub not_told_busy : (level : Level) (setup : Table) (old new : List LogEvent) (seat after : Seated) (command : Command) (receipt : Receipt) → IsRetry level setup old new seat.session receipt.outcome
    → GrowsBy seat after command receipt → last_outcome after.calls ≢ Some (Refused Busy)
not_told_busy level setup old new seat after command receipt retry grows told = retry.3 (same_Some receipt.outcome (Refused Busy) (sym grows.reply ∙ told))

-- the retry of a retryable session is answered
pub retry_answers : (level : Level) (setup : Table) (old new : List LogEvent) (session : ℕ) (outcome : Outcome) → IsLeastRetryable level setup (past_of old) session
    → IsRetry level setup old new session outcome → is_answer outcome ≡ true
retry_answers level setup old new session outcome ((t, waits, may), least) (s, held, appends, apart) =
    let same : t ≡ s = same_Some t s (sym waits ∙ held) in
    answers level setup (past_of old) session s outcome appends.1
    (subst (λ u. IsFree level setup (past_of old) session u ⊎ ((circle : List ℕ) × IsCircle level setup (past_of old) session u circle)) same may)
