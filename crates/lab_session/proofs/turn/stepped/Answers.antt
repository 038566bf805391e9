use Rattle.std.{proofs.{Common.{rules, ◌≡◌, ◌<◌, ◌+◌, length, true, false, refl, sym, subst, Some}, lemmas.Bool.{both_ways}}, specs.{Prelude.{IsSome}, Vec.{vec_capacity}}}
use Rattle.lab_engine.specs.{Log.{past_of, waiting}, Recording.{is_answer}}
use Rattle.lab_session.{specs.{declared.seat.Call.{Call}, Seats.{Seated, GrowsBy}, Turns.{IsStepped}, Waiting.{TellsFull}}, proofs.{Filled.{tells_full}, Places.{placed, no_end}, Turning.{grown, unanswered_waits, unanswered_asks}}}
use Rattle.lab_session.proofs.turn.stepped.Goals as goal

pub returns-then-not-is_answered-clause-stepped : goal.returns-then-not-is_answered-clause-stepped
returns-then-not-is_answered-clause-stepped g c =
    let inside : Seated = record { session = c.seat.inside.session; calls = c.seat.inside.calls.items; holds = c.seat.inside.holds } in
    let after : Seated = record { session = c.seat.inside.session; calls = c.reserve_call.new.calls.items; holds = Some c.args.command } in
    let answer : is_answer c.in-Ok.receipt.outcome ≡ false = search rules in
    subst (λ s. IsStepped c.args.bench.now c.step.new.self s after c.args.command false) c.seat.view_is (record {
      receipt = c.in-Ok.receipt;
      step = c.in-Ok.ensures.step;
      place = c.in-Ok.ensures.place;
      answer = answer;
      listed = λ is. absurd (both_ways false refl is);
      kept = λ is. absurd (both_ways false refl is);
      held = λ is. search rules;
    })

pub returns-clause-stepped : goal.returns-clause-stepped
returns-clause-stepped g c =
    let inside : Seated = record { session = c.seat.inside.session; calls = c.seat.inside.calls.items; holds = c.seat.inside.holds } in
    let after : Seated = record { session = c.seat.inside.session; calls = c.push_reserved.new.self.items; holds = c.seat.inside.holds } in
    let answer : is_answer c.in-Ok.receipt.outcome ≡ true = search rules in
    let grows : GrowsBy inside after c.args.command c.in-Ok.receipt =
    grown inside c.args.command c.in-Ok.receipt c.reserve_call.new.calls.items c.push_reserved.new.self.items c.seat.inside.holds c.reserve_call.ensures.calls c.push_reserved.ensures.items answer in
    subst (λ s. IsStepped c.args.bench.now c.step.new.self s after c.args.command true) c.seat.view_is (record {
      receipt = c.in-Ok.receipt;
      step = c.in-Ok.ensures.step;
      place = c.in-Ok.ensures.place;
      answer = answer;
      listed = λ is. grows;
      kept = λ is. refl;
      held = λ is. absurd (both_ways true is refl);
    })

pub returns-then-not-is_answered-clause-waits : goal.returns-then-not-is_answered-clause-waits
returns-then-not-is_answered-clause-waits g c =
    let run = c.args.bench.now in
    let answer : is_answer c.in-Ok.receipt.outcome ≡ false = search rules in
    subst (λ (s : Seated). false ≡ false → IsSome (waiting (past_of c.step.new.self.log) s.session)) c.seat.view_is
    (λ is. unanswered_waits run.level run.setup run.log c.step.new.self.log c.seat.inside.session c.args.command c.in-Ok.receipt.outcome c.in-Ok.ensures.step answer)

pub returns-in-Err-clause-full : goal.returns-in-Err-clause-full
returns-in-Err-clause-full g c = subst (TellsFull c.args.bench.now) (sym c.lab_fault.ensures) (tells_full c.args.bench.now c.in-Err.fault false c.in-Err.ensures.filled)

pub returns-then-not-is_answered-clause-asks : goal.returns-then-not-is_answered-clause-asks
returns-then-not-is_answered-clause-asks g c =
    let run = c.args.bench.now in
    let answer : is_answer c.in-Ok.receipt.outcome ≡ false = search rules in
    λ is. unanswered_asks run.level run.setup run.log c.step.new.self.log c.seat.inside.session c.args.command c.in-Ok.receipt.outcome c.in-Ok.ensures.step answer

pub invariant_of-seat-2 : goal.invariant_of-seat-2
invariant_of-seat-2 g c =
    let run = c.args.bench.now in
    let behind : c.ends-ends.result ≡ false → length c.reserve_call.new.calls.items + 1 < vec_capacity c.reserve_call.new.calls = search rules in
    let call : Call = record { command = c.args.command; receipt = c.in-Ok.receipt } in
    placed c.reserve_call.new.calls.items c.push_reserved.new.self.items call (vec_capacity c.push_reserved.new.self) c.push_reserved.ensures.items
    (λ going. subst (λ n. length c.reserve_call.new.calls.items + 1 < n) (sym c.push_reserved.ensures.capacity)
    (behind (no_end run.level run.setup (past_of run.log) c.seat.inside.session c.args.command c.in-Ok.receipt.outcome c.ends-ends.result c.ends-ends.ensures.ends c.in-Ok.ensures.step.0.1 going)))
