-- The calls of each session in a log that follows a script to its end.
use Rattle.std.proofs.{Common.{◌≡◌, ◌≢◌, ℕ, ◌≤◌, refl, sym, ap, subst, ◌∙◌, arith, Bool, true, false, cond, ◌&&◌, List, [], ◌∷◌, ◌++◌, ◌⊎◌, inl, inr, length, map, reverse, append-nil, length-append}, lemmas.List.{map-append, reverse-reverse, Elements.{filter-append}}}
use Rattle.std.specs.Prelude.{◌==◌, is_some}
use Rattle.lab_table.specs.{Table.{Table}, declared.statement.Command.TheVariants.{Abort}}
use Rattle.lab_engine.{specs.{declared.event.{Level.{Level}, LogEvent.{LogEvent}}, Log.{Past, past_of}, Rules.{IsLegal}, Recording.{Line, given, is_answer, calls, IsScripted}}, proofs.Runs.{past_of-push}}
use Rattle.lab_session.{specs.Play.{commands_of, commands_called, IsPlayed}, proofs.{Unblocked.{none_waits}, NextLines.{next_none}, Stages.{called, rests, holds, ended, StageOf, same_split, stages}}}

-- the commands of calls after one event more
called_more : (session : ℕ) (log : List LogEvent) (event : LogEvent)
    → commands_called session (log ++ event ∷ []) ≡ commands_called session log ++ cond (event.session == session && is_answer event.outcome) (event.command ∷ []) []
called_more session log event =
    ap (map (λ (e : LogEvent). e.command)) (filter-append (λ (e : LogEvent). e.session == session && is_answer e.outcome) log (event ∷ []))
    ∙ map-append (λ (e : LogEvent). e.command) (calls session log) (calls session (event ∷ []))
    ∙ ap (λ l. commands_called session log ++ l) (one (event.session == session && is_answer event.outcome))
  where
    one : (b : Bool) → map (λ (e : LogEvent). e.command) (cond b (event ∷ []) []) ≡ cond b (event.command ∷ []) []
    one true = refl
    one false = refl

-- the calls of a log as its past has them
called_past : (session : ℕ) (past : Past) → commands_called session (reverse past) ≡ called past session
called_past session [] = refl
called_past session (event ∷ past) =
    let last : reverse (event ∷ past) ≡ reverse past ++ event ∷ [] =
    sym (ap reverse (past_of-push (reverse past) event ∙ ap (λ l. event ∷ l) (reverse-reverse past))) ∙ reverse-reverse (reverse past ++ event ∷ []) in
    ap (commands_called session) last ∙ called_more session (reverse past) event
    ∙ ap (λ l. l ++ cond (event.session == session && is_answer event.outcome) (event.command ∷ []) []) (called_past session past)

-- the calls of each session in a log that follows a script to its end
pub each_played : (level : Level) (setup : Table) (lines : List Line) (log : List LogEvent) → IsLegal level setup (past_of log) → IsScripted level setup lines (past_of log)
    → (session : ℕ) → IsPlayed session lines log
each_played level setup lines log legal scripted session =
    subst (λ commands. (commands ≡ commands_of session lines) ⊎ ((commands ≡ commands_of session lines ++ Abort ∷ []) × (commands_of session lines ≢ [])))
    (sym (called_past session (past_of log)) ∙ ap (commands_called session) (reverse-reverse log)) (by_stage (stages level setup lines (past_of log) legal scripted.follows session))
  where
    by_stage : StageOf lines (past_of log) session
        → (called (past_of log) session ≡ commands_of session lines) ⊎ ((called (past_of log) session ≡ commands_of session lines ++ Abort ∷ []) × (commands_of session lines ≢ []))
    by_stage (rests rest none split count first) =
        let all_given : length (commands_of session lines) ≤ given (past_of log) session =
        elim (next_none (past_of log) [] lines session none scripted.none_left) [ inl p ↦ omega (arith, p) | inr p ↦ omega (arith, p) ] in
        let same : (commands_of session lines ≡ called (past_of log) session) × ([] ≡ rest) =
        same_split (commands_of session lines) (called (past_of log) session) [] rest
        (omega (arith, all_given, count, ap length split, length-append (called (past_of log) session) rest)) (append-nil (commands_of session lines) ∙ split) in
        inl (sym same.0)
    by_stage (holds s rest held split count live) = absurd (none_waits level setup (past_of log) scripted.none_retryable scripted.none_idle session (ap is_some held))
    by_stage (ended none dead over count some) = inr (over, some)
