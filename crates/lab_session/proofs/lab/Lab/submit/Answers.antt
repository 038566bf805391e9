use Rattle.std.proofs.lemmas.{Bool.{both_ways}, Result.{IfOk-weaker, IfErr-weaker}}
use Rattle.lab_engine.specs.Journal.{EngineRun}
use Rattle.lab_session.{specs.Bench.{IsRunOf}, proofs.Answering.{answered_by, at_once, told_to_wait, since, told_since}}
use Rattle.lab_session.proofs.lab.Lab.submit.Goals as goal

pub returns-then-answered-clause-turns : goal.returns-then-answered-clause-turns
returns-then-answered-clause-turns g c =
    let Runs : EngineRun → Type 0 = IsRunOf g.E.Engine.kind g.E.Engine.opening g.E.Engine.events in
    let old = c.deref_mut.result.now.bench in
    (old, at_once Runs old c.stepped.new.bench c.stepped.ensures.before c.in-Ok.ensures.behind c.args.seat c.stepped.new.seat c.args.command _ c.in-Ok.ensures.stepped c.if-answered.true)

pub returns-then-answered-clause-answered : goal.returns-then-answered-clause-answered
returns-then-answered-clause-answered g c =
    let turns = returns-then-answered-clause-turns g c in
    answered_by (IsRunOf g.E.Engine.kind g.E.Engine.opening g.E.Engine.events) turns.0 c.args.seat c.stepped.new.seat c.args.command turns.1

pub returns-else-answered-clause-turns : goal.returns-else-answered-clause-turns
returns-else-answered-clause-turns g c =
    let Runs : EngineRun → Type 0 = IsRunOf g.E.Engine.kind g.E.Engine.opening g.E.Engine.events in
    let old = c.deref_mut.result.now.bench in
    IfOk-weaker c.waited.result _ _
    (λ s later. (old, since Runs old c.stepped.new.bench c.stepped.ensures.before c.in-Ok.ensures.behind c.args.seat c.stepped.new.seat c.args.command _ c.in-Ok.ensures.stepped s c.if-answered.false later))
    c.waited.ensures.retried

pub returns-else-answered-clause-answered : goal.returns-else-answered-clause-answered
returns-else-answered-clause-answered g c =
    IfOk-weaker c.waited.result _ _ (λ s turns. answered_by (IsRunOf g.E.Engine.kind g.E.Engine.opening g.E.Engine.events) turns.0 c.args.seat s c.args.command turns.1)
    (returns-else-answered-clause-turns g c)

pub returns-else-answered-clause-told : goal.returns-else-answered-clause-told
returns-else-answered-clause-told g c =
    let Runs : EngineRun → Type 0 = IsRunOf g.E.Engine.kind g.E.Engine.opening g.E.Engine.events in
    IfErr-weaker c.waited.result _ _
    (λ e told.
    told_since Runs c.deref_mut.result.now.bench c.stepped.new.bench c.stepped.ensures.before c.in-Ok.ensures.behind c.args.seat c.stepped.new.seat c.args.command _ c.in-Ok.ensures.stepped e.1
    c.if-answered.false told)
    c.waited.ensures.told

pub returns-else-answered-clause-waits : goal.returns-else-answered-clause-waits
returns-else-answered-clause-waits g c =
    let Runs : EngineRun → Type 0 = IsRunOf g.E.Engine.kind g.E.Engine.opening g.E.Engine.events in
    let old = c.deref_mut.result.now.bench in
    IfErr-weaker c.waited.result _ _
    (λ e waits. λ is. (old, told_to_wait Runs old c.stepped.new.bench c.stepped.ensures.before c.in-Ok.ensures.behind c.args.seat c.stepped.new.seat c.args.command _ c.in-Ok.ensures.stepped c.if-answered.false))
    c.waited.ensures.waiting

pub returns-in-Err-clause-told : goal.returns-in-Err-clause-told
returns-in-Err-clause-told g c = record {
  run = c.deref_mut.result.now.bench;
  of_lab = c.stepped.ensures.before;
  full = c.in-Err.ensures.full;
  waits = λ is. absurd (both_ways _ c.in-Err.ensures.waiting is);
}
