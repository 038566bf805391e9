use Rattle.std.proofs.Common.{◌<◌, ap, subst, arith, length, option_map}
use Rattle.lab_engine.specs.Journal.{EngineRun}
use Rattle.lab_session.{specs.Bench.{HasNext}, proofs.SoundRuns.{sound_next}}
use Rattle.lab_session.proofs.bench.Bench.log_next.Goals as goal

pub invariant_of-self-2 : goal.invariant_of-self-2
invariant_of-self-2 g c =
    let logged = c.in_ok-log_event.ensures in
    let room : length (g.E.Engine.events c.self.inside.engine) < 100000 = omega (arith, c.self.invariant.room, c.if-log-eq-MAX_EVENTS.false, ap length c.log.ensures) in
    sound_next _ _ _ _ c.args.session _ logged.kind logged.opening logged.next c.self.invariant room

pub returns-clause-next : goal.returns-clause-next
returns-clause-next g c =
    subst (λ (run : EngineRun). HasNext run.level run.setup run.log (g.E.Engine.events c.log_event.new.engine) c.args.session (option_map (λ k. k.now) c.args.command)) c.self.view_is
    c.in_ok-log_event.ensures.next

pub returns-clause-sound : goal.returns-clause-sound
returns-clause-sound g c =
    let logged = c.in_ok-log_event.ensures in
    let room : length (g.E.Engine.events c.self.inside.engine) < 100000 = omega (arith, c.self.invariant.room, c.if-log-eq-MAX_EVENTS.false, ap length c.log.ensures) in
    sound_next _ _ _ _ c.args.session _ logged.kind logged.opening logged.next c.self.invariant room
