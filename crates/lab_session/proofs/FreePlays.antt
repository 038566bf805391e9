-- From what the threads of a free play hand on to the calls of each session in the log.
use Rattle.std.proofs.{Common.{◌≡◌, ◌≢◌, ℕ, zero, suc, ◌+◌, ◌≤◌, ◌<◌, length, refl, sym, ap, subst, ◌∙◌, arith, Bool, true, false, cond, ◌&&◌, List, [], ◌∷◌, ◌++◌, map, inl, inr}, lemmas.{Bool.{both_ways, eq-eqb, Decides.{eqb_tells}}, List.{Elements.{All-map, All-append}, Sums.{sum_by-cons}}}}
use Rattle.std.specs.{Prelude.{◌==◌, None, filter, slice_index_or}, List.{All}}
use Rattle.lab_script.specs.declared.script.Line.{Line as ScriptLine}
use Rattle.lab_table.specs.Table.{Table}
use Rattle.lab_engine.specs.{declared.event.{Level.{Level}, LogEvent.{LogEvent}}, Log.{past_of}, OverLimit.{BreaksLimit}, Recording.{Line, is_answer, calls}}
use Rattle.lab_session.specs.declared.{free.Ended.{Ended}, fault.CloseFault.{CloseFault, TheVariants.{NoMemory, SeatMissing, ReceiptDiffers, OverLimit, SeatRepeated}}}
use Rattle.lab_session.specs.Seats.{Seated, call_at, calls_behind, placed_calls}
use Rattle.lab_session.specs.Play.{given_lines, commands_of, commands_called, AreCommandsOf, unclosed_fault}
use Rattle.lab_session.specs.Closing.{seats_of, AreClosed, IsLabCloseFault}
use Rattle.lab_session.specs.Free.{commands_in, IsPlayedSeat, IsEnded, AllPlayed, AllSessionsPlayed, IsFreeFault}

-- the idle seats and those of the threads that had no fault
pub all_played : (lines : List Line) (idle : List Seated) (ended : List Ended) → All (λ e. IsEnded lines e.seat e.fault) ended → All (λ e. e.fault ≡ None) ended → AllPlayed lines idle
    → AllPlayed lines (idle ++ map (λ e. e.seat) ended)
all_played lines idle ended h none before =
    All-append (IsPlayedSeat lines) idle (map (λ (e : Ended). e.seat) ended) before
    (All-map (IsPlayedSeat lines) (λ (e : Ended). e.seat) ended (λ k d few. (h k d few).played (none k d few)))

-- the commands of the calls that a seat's list is compared with
same_commands : (session before : ℕ) (log : List LogEvent) → commands_in (calls_behind session before log) ≡ commands_called session log
same_commands session before [] = refl
same_commands session before (event ∷ log) = at (event.session == session && is_answer event.outcome) (same_commands session (before + 1) log)
  where
    at : (b : Bool) → commands_in (calls_behind session (before + 1) log) ≡ commands_called session log
        → commands_in (cond b (call_at (before + 1) event ∷ []) [] ++ calls_behind session (before + 1) log)
        ≡ map (λ (e : LogEvent). e.command) (cond b (event ∷ calls session log) (calls session log))
    at true h = ap (λ l. event.command ∷ l) h
    at false h = h

-- some seat is a session's, where their count says so
seat_of : (P : Seated → Type 0) (session : ℕ) (seats : List Seated) → 1 ≤ seats_of session seats → All P seats → (seat : Seated) × (seat.session ≡ session) × P seat
seat_of P session [] some all = absurd (omega (arith, some))
seat_of P session (seat ∷ seats) some all = elim (eqb_tells seat.session session) [
  | inl p ↦ (seat, p.1, all 0 seat (omega arith))
  | inr p ↦
      let count : cond (seat.session == session) 1 0 + seats_of session seats ≡ seats_of session (seat ∷ seats) = sym (sum_by-cons (λ (s : Seated). cond (s.session == session) 1 0) seat seats) in
      let apart : ◌≡◌ {A = ℕ} (cond (seat.session == session) 1 0) 0 = ap (λ b. cond b 1 0) p.0 in
      seat_of P session seats (omega (arith, count, apart, some)) (λ k d few. all (suc k) d (omega (arith, few)))
]

-- the calls of each session, where the seats are closed
pub closed_played : (lines : List Line) (log : List LogEvent) (seats : List Seated) → AreClosed 9 log seats → AllPlayed lines seats → AllSessionsPlayed lines log
closed_played lines log seats closed played session low high =
    let at = seat_of (λ seat. IsPlayedSeat lines seat × (seat.session ≡ session → seat.calls ≡ placed_calls session log)) session seats (closed.missing session low high)
    (λ k d few. (played k d few, closed.agree session low (omega (arith, high)) k d few)) in
    let seat : Seated = at.0 in
    let own : AreCommandsOf session lines (commands_in seat.calls) = subst (λ s. AreCommandsOf s lines (commands_in seat.calls)) at.1 at.2.0 in
    subst (AreCommandsOf session lines) (ap commands_in (at.2.1 at.1) ∙ same_commands session 0 log) own

-- a session that has a line has commands
pub lined : (session : ℕ) (lines : List ScriptLine) (i : ℕ) (line : ScriptLine) → i < length lines → line ≡ slice_index_or lines i line → line.session ≡ session
    → commands_of session (given_lines lines) ≢ []
lined session [] i line few is own none = absurd (omega (arith, few))
lined session (first ∷ lines) zero line few is own none = at (first.session == session) (eq-eqb first.session session (ap (λ (l : ScriptLine). l.session) (sym is) ∙ own)) none
  where
    at : (b : Bool) → b ≡ true → map (λ (l : Line). l.1) (cond b ((first.session, first.command) ∷ filter (λ (l : Line). l.0 == session) (given_lines lines)) (filter (λ (l : Line). l.0 == session) (given_lines lines))) ≡ [] → ⊥
    at true q h = absurd (omega (arith, ap length h))
    at false q h = absurd (both_ways _ refl q)
lined session (first ∷ lines) (suc i) line few is own none = at (lined session lines i line (omega (arith, few)) is own) (first.session == session) none
  where
    at : commands_of session (given_lines lines) ≢ [] → (b : Bool) → map (λ (l : Line). l.1) (cond b ((first.session, first.command) ∷ filter (λ (l : Line). l.0 == session) (given_lines lines)) (filter (λ (l : Line). l.0 == session) (given_lines lines))) ≡ [] → ⊥
    at rest true h = absurd (omega (arith, ap length h))
    at rest false h = rest h

-- why a free play has no recording, where its lab isn't closed
pub unclosed_free : (level : Level) (setup : Table) (lines : List Line) (seats : List Seated) → AllPlayed lines seats → (fault : CloseFault) → IsLabCloseFault level setup 9 seats fault
    → IsFreeFault level setup lines (unclosed_fault fault)
unclosed_free level setup lines seats played NoMemory h = tt
unclosed_free level setup lines seats played (SeatMissing session) h = tt
unclosed_free level setup lines seats played (ReceiptDiffers session place) h = tt
unclosed_free level setup lines seats played (OverLimit which) (run, at_level, on_setup, sound, (closed, breaks)) = record {
  run = run;
  at_level = at_level;
  on_setup = on_setup;
  sound = sound;
  played = closed_played lines run.log seats closed played;
  breaks = subst (λ s. BreaksLimit s (past_of run.log) which) on_setup breaks;
}
unclosed_free level setup lines seats played (SeatRepeated session) h = tt
