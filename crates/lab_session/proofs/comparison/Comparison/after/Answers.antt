use Rattle.std.{proofs.{Common.{◌≡◌, ◌≢◌, ◌+◌, ◌++◌, ◌∷◌, [], List, cond, sym, subst, ap, ◌∙◌, arith, take, length, refl}, lemmas.{Bool.{both_ways}, Option.{same_Some, slice_get_past, slice_get_read}}}, specs.Prelude.{Some, slice_get}}
use Rattle.lab_engine.{specs.Recording.{is_answer}, proofs.LockSteps.{none_some}}
use Rattle.lab_session.{specs.{declared.seat.Call.{Call}, Seats.{call_at, DifferFirst}, Compared.{Says}}, proofs.{Comparing.{differ_there}, comparison.Comparison.after.Goals.{then-met-calls-via-then-met-calls, then-met-calls-via-else-met-calls+then-not-is_call_at}}}
use Rattle.lab_session.proofs.comparison.Comparison.after.Goals as goal

pub returns-then-met-calls : goal.returns-then-met-calls
returns-then-met-calls c = λ seats session all rest says.
    let call = call_at c.args.place c.args.event.now in
    let calls = c.in-Agrees.calls.now in
    let met = c.in-Agrees.met in
    let h = subst (λ s. Says seats session all (cond (is_answer c.args.event.now.outcome) (call ∷ []) [] ++ rest) s) c.in-Agrees.is says in
    let next : all ≡ take met calls ++ call ∷ rest = h.5 ∙ ap (λ b. take met calls ++ (cond b (call ∷ []) [] ++ rest)) (sym c.is_answered.ensures ∙ c.if-not-is_answered.false) in
    let apart : slice_get calls met ≢ Some call =
    elim c.then-met-calls.branch [
      | then-met-calls-via-then-met-calls w ↦ λ same. none_some _ (sym (slice_get_past calls met w.if-met-calls.true) ∙ same)
      | then-met-calls-via-else-met-calls+then-not-is_call_at w ↦ λ same.
          both_ways _ w.if-not-is_call_at.true
          (w.is_call_at.ensures.1 (same_Some _ _ (sym (slice_get_read calls (length calls) met w.index-calls-met.result refl (omega arith) w.index-calls-met.is) ∙ same)))
    ] in
    (h.0, h.1, h.2, subst (λ (l : List Call). DifferFirst l all (met + 1)) (sym h.3) (differ_there calls all (call ∷ rest) met h.4 next apart))
