use Rattle.std.{proofs.Common.{rules, ◌≡◌, true, subst}, specs.Prelude.{IsSome, IfSome}}
use Rattle.lab_engine.specs.{Journal.{EngineRun}, Log.{past_of, waiting}}
use Rattle.lab_session.specs.{Bench.{IsRunOf}, Seats.{Seated}, Turns.{IsRetried, IsRetriedIn}, Waiting.{TellsFull, IsTold}}
use Rattle.lab_session.proofs.lab.Lab.waited.Goals as goal

pub returns-in-Ok-Some-clause-retried : goal.returns-in-Ok-Some-clause-retried
returns-in-Ok-Some-clause-retried g c =
    let Runs : EngineRun → Type 0 = IsRunOf g.E.Engine.kind g.E.Engine.opening g.E.Engine.events in
    let old : EngineRun = c.deref_mut.result.now.bench in
    let given : IfSome c.in-Ok-Some.field-0 (λ change. IsRetried old c.retried.new.bench c.loop.seat c.retried.new.seat) = c.in-Ok-Some.ensures.retried in
    let turn : IsRetried old c.retried.new.bench c.loop.seat c.retried.new.seat =
    subst (λ d. IfSome d (λ change. IsRetried old c.retried.new.bench c.loop.seat c.retried.new.seat)) c.in-Ok-Some.field-0-is given in
    let here : IsRetriedIn Runs c.loop.seat c.retried.new.seat =
    record { old = old; before = c.retried.ensures.before; new = c.retried.new.bench; behind = c.in-Ok-Some.ensures.behind; retried = turn } in
    subst (λ s. IsRetriedIn Runs s c.retried.new.seat) c.loop.invariant.same here

pub returns-then-is_waiting-clause-told : goal.returns-then-is_waiting-clause-told
returns-then-is_waiting-clause-told g c =
    let here : EngineRun = c.deref-then-deref.result.now.bench in
    let same : c.deref-then-is_waiting.result.now.bench ≡ here = search rules in
    let own : c.seat.inside.session ≡ c.args.seat.session = search rules in
    let held : IsSome (waiting (past_of here.log) c.seat.inside.session) = subst (λ b. b ≡ true) c.is_waiting.ensures.waits c.if-is_waiting.true in record {
      run = here;
      of_lab = c.is_waiting.ensures.run;
      full = subst (λ run. TellsFull run c.ended.result) same c.ended.ensures.full;
      waits = λ is. subst (λ session. IsSome (waiting (past_of here.log) session)) own held;
    }

pub returns-in-Err-clause-told : goal.returns-in-Err-clause-told
returns-in-Err-clause-told g c =
    let Runs : EngineRun → Type 0 = IsRunOf g.E.Engine.kind g.E.Engine.opening g.E.Engine.events in
    let old : EngineRun = c.deref_mut.result.now.bench in
    let here : IsTold Runs c.loop.seat.session c.in-Err.fault = record { run = old; of_lab = c.retried.ensures.before; full = c.in-Err.ensures.full; waits = λ is. c.in-Err.ensures.waits } in
    subst (λ (s : Seated). IsTold Runs s.session c.in-Err.fault) c.loop.invariant.same here
