use Rattle.lab_engine.proofs.{Common.{arith, both_ways, get_or, none_some, SessionState, sym, ◌∙◌}, Describing.{nobody_waits}, Waiting.{stands_at, waits_within}, Retrying.{state_retryable, state_released, none_step}}
use Rattle.lab_engine.proofs.waits.retryable.Goals as goal

pub returns-then-nobody_waits : goal.returns-then-nobody_waits
returns-then-nobody_waits c = λ level setup past d h session r. none_some _ (sym (nobody_waits past c.args.situation.now d (sym c.nobody_waits.ensures ∙ c.if-nobody_waits.true) session) ∙ r.1)

pub loop-state-init : goal.loop-state-init
loop-state-init c = λ level setup past d h session le r. absurd (omega (arith, le, (waits_within past c.args.situation.now session r.0 d r.1).0))

pub returns-then-is_released : goal.returns-then-is_released
returns-then-is_released c = λ level setup past d h.
    let at = stands_at past c.args.situation.now d c.loop-state.state-index c.state-item.result c.loop-state-test.true c.state-item.is in (
      state_retryable level setup past c.args.situation.now.waits (get_or c.args.situation.now.sessions c.loop-state.state-index c.state-item.result) at.described h (c.is_released.ensures.0 c.if-is_released.true),
      λ other less r. c.loop-state.invariant level setup past d h other (omega (arith, less, at.number)) r,
    )

pub loop-state-preserved : goal.loop-state-preserved
loop-state-preserved c = λ level setup past d h.
    let state : SessionState = get_or c.args.situation.now.sessions c.loop-state.state-index c.state-item.result in
    let at = stands_at past c.args.situation.now d c.loop-state.state-index c.state-item.result c.loop-state-test.true c.state-item.is in
    none_step level setup past c.loop-state.state-index state.session at.number (c.loop-state.invariant level setup past d h)
    (λ r. both_ways _ c.if-is_released.false (c.is_released.ensures.1 (state_released level setup past c.args.situation.now.waits state at.described h r)))

pub returns : goal.returns
returns c = λ level setup past d h session r.
    c.loop-state.invariant level setup past d h session (omega (arith, (waits_within past c.args.situation.now session r.0 d r.1).1, c.loop-state-test.false)) r
