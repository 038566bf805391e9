use Rattle.std.{proofs.Common.{rules, ◌≡◌, ◌≢◌, true, sym, subst, Some, None}, specs.Prelude.{MatchOption}}
use Rattle.lab_engine.specs.{Log.{past_of}, Recording.{is_answer, IsLeastRetryable, NoneRetryable}}
use Rattle.lab_session.{specs.{Seats.{Seated, GrowsBy}, Turns.{IsRetried}, Waiting.{TellsFull}}, proofs.{Filled.{tells_full}, Turning.{grown, not_least, not_told_busy, retry_answers}}}
use Rattle.lab_session.proofs.turn.retried.Goals as goal

pub returns-then-ne-clause-not_due : goal.returns-then-ne-clause-not_due
returns-then-ne-clause-not_due g c =
    let run = c.args.bench.now in
    let apart : c.retryable.result ≢ Some c.args.seat.now.session = search rules in
    not_least run.level run.setup (past_of run.log) c.args.seat.now.session c.retryable.result c.retryable.ensures.least apart

pub returns-clause-retried : goal.returns-clause-retried
returns-clause-retried g c =
    let run = c.args.bench.now in
    let inside : Seated = record { session = c.seat.inside.session; calls = c.seat.inside.calls.items; holds = c.seat.inside.holds } in
    let after : Seated = record { session = c.seat.inside.session; calls = c.push_reserved.new.self.items; holds = c.take.new.self } in
    let is : c.retryable.result ≡ Some c.seat.inside.session = search rules in
    let due : IsLeastRetryable run.level run.setup (past_of run.log) c.seat.inside.session =
    subst (λ r. MatchOption r (NoneRetryable run.level run.setup (past_of run.log)) (IsLeastRetryable run.level run.setup (past_of run.log))) is c.retryable.ensures.least in
    let answered : is_answer c.in-Ok.receipt.outcome ≡ true =
    retry_answers run.level run.setup run.log c.retry.new.self.log c.seat.inside.session c.in-Ok.receipt.outcome due c.in-Ok.ensures.retry in
    let grows : GrowsBy inside after c.in-Some.command c.in-Ok.receipt =
    grown inside c.in-Some.command c.in-Ok.receipt c.reserve_call.new.calls.items c.push_reserved.new.self.items c.take.new.self c.reserve_call.ensures.calls c.push_reserved.ensures.items answered in
    let held : c.seat.inside.holds ≡ Some c.in-Some.command = search rules in
    let rests : c.take.new.self ≡ None = search rules in
    subst (λ s. IsRetried run c.retry.new.self s after) c.seat.view_is (record {
      due = due;
      receipt = c.in-Ok.receipt;
      retry = c.in-Ok.ensures.retry;
      place = c.in-Ok.ensures.place;
      command = c.in-Some.command;
      held = held;
      listed = grows;
      rests = rests;
    })

pub returns-in-Err-clause-full : goal.returns-in-Err-clause-full
returns-in-Err-clause-full g c = subst (TellsFull c.args.bench.now) (sym c.lab_fault.ensures) (tells_full c.args.bench.now c.in-Err.fault true c.in-Err.ensures.filled)

pub returns-clause-apart : goal.returns-clause-apart
returns-clause-apart g c =
    let run = c.args.bench.now in
    let inside : Seated = record { session = c.seat.inside.session; calls = c.seat.inside.calls.items; holds = c.seat.inside.holds } in
    let after : Seated = record { session = c.seat.inside.session; calls = c.push_reserved.new.self.items; holds = c.take.new.self } in
    let is : c.retryable.result ≡ Some c.seat.inside.session = search rules in
    let due : IsLeastRetryable run.level run.setup (past_of run.log) c.seat.inside.session =
    subst (λ r. MatchOption r (NoneRetryable run.level run.setup (past_of run.log)) (IsLeastRetryable run.level run.setup (past_of run.log))) is c.retryable.ensures.least in
    let answered : is_answer c.in-Ok.receipt.outcome ≡ true =
    retry_answers run.level run.setup run.log c.retry.new.self.log c.seat.inside.session c.in-Ok.receipt.outcome due c.in-Ok.ensures.retry in
    not_told_busy run.level run.setup run.log c.retry.new.self.log inside after c.in-Some.command c.in-Ok.receipt c.in-Ok.ensures.retry
    (grown inside c.in-Some.command c.in-Ok.receipt c.reserve_call.new.calls.items c.push_reserved.new.self.items c.take.new.self c.reserve_call.ensures.calls c.push_reserved.ensures.items answered)
