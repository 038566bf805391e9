use Rattle.std.{proofs.{Common.{◌≡◌, ◌+◌, [], List, sym, subst, ap, ◌∙◌, take}, lemmas.List.{take_all, append-nil}}, specs.Prelude.{slice_index_or}}
use Rattle.lab_session.{specs.{declared.seat.Call.{Call}, Compared.{Says}, Seats.{Seated, placed_calls, DifferFirst}}, proofs.Comparing.{differ_there, some_apart, alone}}
use Rattle.lab_session.proofs.comparison.Comparison.difference.Goals as goal

pub returns-then-met-calls : goal.returns-then-met-calls
returns-then-met-calls c = λ log seats session few says.
    let all = placed_calls session log in
    let calls = c.in-Agrees.calls.now in
    let met = c.in-Agrees.met in
    let h = subst (λ s. Says seats session all [] s) c.in-Agrees.is says in
    (h.0, h.1, h.2, subst (λ (l : List Call). DifferFirst l all (met + 1)) (sym h.3) (differ_there calls all [] met h.4 h.5 (some_apart calls met c.if-met-calls.true)))

pub returns-else-met-calls : goal.returns-else-met-calls
returns-else-met-calls c = λ log seats session few says k d lt own.
    let all = placed_calls session log in
    let calls = c.in-Agrees.calls.now in
    let met = c.in-Agrees.met in
    let h = subst (λ s. Says seats session all [] s) c.in-Agrees.is says in
    let same : slice_index_or seats k d ≡ h.0 = alone session seats k h.1.0 d h.0 few lt h.1.1 own (ap (λ (s : Seated). s.session) h.1.2 ∙ h.2) ∙ h.1.2 in
    ap (λ (s : Seated). s.calls) same ∙ h.3 ∙ sym (h.5 ∙ append-nil (take met calls) ∙ take_all met calls c.if-met-calls.false)
