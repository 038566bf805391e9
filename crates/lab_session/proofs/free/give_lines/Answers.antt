use Rattle.lab_engine.specs.Journal.{EngineRun}
use Rattle.lab_session.{specs.Bench.{IsRunOf}, proofs.Filled.{some_full}}
use Rattle.lab_session.proofs.free.give_lines.Goals as goal

pub returns-then-is_active-clause-full : goal.returns-then-is_active-clause-full
returns-then-is_active-clause-full g c =
    let Runs : EngineRun → Type 0 = IsRunOf g.E.Engine.kind g.E.Engine.opening g.E.Engine.events in
    some_full Runs c.loop-line.seat.session c.submit.result c.submit.ensures.told
