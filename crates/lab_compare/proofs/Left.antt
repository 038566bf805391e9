-- What sessions have left behind their places.
use Rattle.std.{proofs.{Common.{◌≡◌, ℕ, zero, suc, ◌+◌, ◌-◌, Bool, true, false, Some, List, length, drop, length-drop, refl, sym, ap, ◌∙◌, arith}, lemmas.List.{drop-drop, drop_min}}, specs.Prelude.{◌==◌, cond, min, replicate, slice_get, unwrap_or}}
use Rattle.lab_table.specs.Sessions.{of_session}
use Rattle.lab_compare.specs.Cells.{answer_place, left_by, left_after, left_behind}
use Rattle.lab_engine.specs.declared.event.LogEvent.{LogEvent}

-- what a session has left at its place
pub left_at : (log : List LogEvent) (places : List ℕ) (session place begin : ℕ) → of_session places session ≡ Some place → begin ≡ min place (length log)
    → drop begin log ≡ left_behind log places session
left_at log places session place begin got is = ap (λ n. drop n log) is ∙ drop_min place log ∙ ap (λ p. drop (unwrap_or p 0) log) (sym got)

-- behind the answer to a session's next command there is what the count of those that are left says
pub passed : (log : List LogEvent) (begin place : ℕ) → drop (length log - (length (drop begin log) - place - 1)) log ≡ drop (place + 1) (drop begin log)
passed log begin place =
    let rest : length (drop begin log) ≡ length log - begin = length-drop begin log in
    let sum : length log - (length (drop begin log) - place - 1) ≡ min (begin + (place + 1)) (length log) = omega (arith, rest) in
    ap (λ n. drop n log) sum ∙ drop_min (begin + (place + 1)) log ∙ sym (drop-drop (place + 1) begin log)

-- where one session's place is moved behind the answer to its next command, it has that much less left, and the others what they had
module _ (log : List LogEvent) (old new : List ℕ) (session place now : ℕ) (at : place ≡ answer_place session (left_behind log old session))
    (is : drop now log ≡ drop (place + 1) (left_behind log old session)) (each : (other : ℕ) → of_session new other ≡ cond (other == session) (Some now) (of_session old other)) where
  its_own : (other : ℕ) → (other == session) ≡ true → left_behind log new other ≡ left_after (left_behind log old) session other
  its_own other test =
      ap (λ p. drop (unwrap_or p 0) log) (each other ∙ ap (λ b. cond b (Some now) (of_session old other)) test)
      ∙ is
      ∙ ap (λ k. drop (k + 1) (left_behind log old session)) at
      ∙ sym (ap (λ b. cond b (left_by session (left_behind log old session)) (left_behind log old other)) test)

  of_others : (other : ℕ) → (other == session) ≡ false → left_behind log new other ≡ left_after (left_behind log old) session other
  of_others other test =
      ap (λ p. drop (unwrap_or p 0) log) (each other ∙ ap (λ b. cond b (Some now) (of_session old other)) test)
      ∙ sym (ap (λ b. cond b (left_by session (left_behind log old session)) (left_behind log old other)) test)

  of_each : (other : ℕ) (b : Bool) → (other == session) ≡ b → left_behind log new other ≡ left_after (left_behind log old) session other
  of_each other true test = its_own other test
  of_each other false test = of_others other test

  pub noted : left_behind log new ≡ left_after (left_behind log old) session
  noted = λ i other. of_each other (other == session) refl i

-- in a list of zeros there is nothing else
zeros : (n k : ℕ) → unwrap_or (slice_get (replicate {A = ℕ} n 0) k) 0 ≡ zero
zeros zero k = refl
zeros (suc n) zero = refl
zeros (suc n) (suc k) = zeros n k

all_left : (log : List LogEvent) (session : ℕ) → left_behind log (replicate 9 0) session ≡ log
all_left log zero = refl
all_left log (suc before) = ap (λ n. drop n log) (zeros 9 before)

-- in the beginning each session has all events left
pub beginning : (log : List LogEvent) → left_behind log (replicate 9 0) ≡ (λ (session : ℕ). log)
beginning log = λ i session. all_left log session i
