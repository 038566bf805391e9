use Rattle.lab_engine.proofs.{Common.{arith, both_ways, get_or, none_some, SessionState, sym, ◌∙◌, ◌∷◌}, Describing.{nobody_waits}, Waiting.{stands_at, waits_within, waits_step, waits_all}}
use Rattle.lab_engine.proofs.waits.waits_after.Goals as goal

pub returns-then-nobody_waits : goal.returns-then-nobody_waits
returns-then-nobody_waits g c = λ past d legal h session other.
    ((λ w. absurd (both_ways _ (c.none.ensures session other) w)), (λ w. none_some _ (sym (nobody_waits _ c.args.situation.now d (sym c.nobody_waits.ensures ∙ c.if-nobody_waits.true) session) ∙ w.1)))

pub loop-state-init : goal.loop-state-init
loop-state-init g c = λ past d legal h session other. (
  (λ w. absurd (both_ways _ (c.none-waits.ensures session other) w)),
  (λ w. absurd (omega (arith, w.0, (waits_within (c.args.event.now ∷ past) c.args.situation.now session w.1.0 d w.1.1).0))),
)

pub loop-state-preserved : goal.loop-state-preserved
loop-state-preserved g c = λ past d legal h.
    let after = c.args.event.now ∷ past in
    let state : SessionState = get_or c.args.situation.now.sessions c.loop-state.state-index c.state-item.result in
    let at = stands_at after c.args.situation.now d c.loop-state.state-index c.state-item.result c.loop-state-test.true c.state-item.is in
    waits_step g.R.Rules.kind c.args.setup.now after c.loop-state.state-index state.session c.loop-state.waits c.put.new.self c.on_after-on.result at.number
    (c.loop-state.invariant past d legal h) (c.on_after-on.ensures past d at.described legal h) c.put.ensures

pub returns : goal.returns
returns g c = λ past d legal h.
    let after = c.args.event.now ∷ past in
    waits_all g.R.Rules.kind c.args.setup.now after c.args.situation.now c.loop-state.state-index c.loop-state.waits d c.loop-state-test.false
    (c.loop-state.invariant past d legal h)
