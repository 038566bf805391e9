use Rattle.std.proofs.{Common.{rules, ◌≡◌, None, inl, inr}, lemmas.{Bool.{both_ways}, Result.{IfOk-weaker}}}
use Rattle.lab_engine.specs.{Journal.{EngineRun}, Log.{past_of, waiting}}
use Rattle.lab_session.{specs.{Bench.{IsRunOf}, Turns.{resting}}, proofs.Answering.{gone_on_by, at_once, since}}
use Rattle.lab_session.proofs.lab.Lab.resume.Goals as goal

pub returns-then-answered-clause-turns : goal.returns-then-answered-clause-turns
returns-then-answered-clause-turns g c =
    let Runs : EngineRun → Type 0 = IsRunOf g.E.Engine.kind g.E.Engine.opening g.E.Engine.events in
    let old = c.deref_mut.result.now.bench in
    let rests : waiting (past_of old.log) c.args.seat.session ≡ None = search (rules, c.is_waiting.ensures.waits, c.if-is_waiting.false) in
    let asked = c.in-Ok.ensures.stepped in
    inr (
      old,
      asked.0,
      asked.1,
      rests,
      at_once Runs old c.gone_on.new.bench c.gone_on.ensures.before c.in-Ok.ensures.behind (resting c.args.seat) c.gone_on.new.seat asked.0 _ asked.2 c.if-answered.true,
    )

pub returns-then-answered-clause-answered : goal.returns-then-answered-clause-answered
returns-then-answered-clause-answered g c =
    gone_on_by (IsRunOf g.E.Engine.kind g.E.Engine.opening g.E.Engine.events) c.args.seat c.gone_on.new.seat (returns-then-answered-clause-turns g c)

pub returns-then-is_waiting-clause-answered : goal.returns-then-is_waiting-clause-answered
returns-then-is_waiting-clause-answered g c =
    IfOk-weaker c.waited.result _ _ (λ s later. gone_on_by (IsRunOf g.E.Engine.kind g.E.Engine.opening g.E.Engine.events) c.args.seat s (inl later)) c.waited.ensures.retried

pub returns-else-answered-clause-turns : goal.returns-else-answered-clause-turns
returns-else-answered-clause-turns g c =
    let Runs : EngineRun → Type 0 = IsRunOf g.E.Engine.kind g.E.Engine.opening g.E.Engine.events in
    let old = c.deref_mut.result.now.bench in
    let rests : waiting (past_of old.log) c.args.seat.session ≡ None = search (rules, c.is_waiting.ensures.waits, c.if-is_waiting.false) in
    let asked = c.in-Ok.ensures.stepped in
    IfOk-weaker c.waited-in-Ok.result _ _
    (λ s later.
    inr (
      old,
      asked.0,
      asked.1,
      rests,
      since Runs old c.gone_on.new.bench c.gone_on.ensures.before c.in-Ok.ensures.behind (resting c.args.seat) c.gone_on.new.seat asked.0 _ asked.2 s c.if-answered.false later,
    ))
    c.waited-in-Ok.ensures.retried

pub returns-else-answered-clause-answered : goal.returns-else-answered-clause-answered
returns-else-answered-clause-answered g c =
    IfOk-weaker c.waited-in-Ok.result _ _ (λ s turns. gone_on_by (IsRunOf g.E.Engine.kind g.E.Engine.opening g.E.Engine.events) c.args.seat s turns)
    (returns-else-answered-clause-turns g c)

pub returns-in-Err-clause-told : goal.returns-in-Err-clause-told
returns-in-Err-clause-told g c = λ some.
    let old = c.deref_mut.result.now.bench in
    let rests : waiting (past_of old.log) c.args.seat.session ≡ None = search (rules, c.is_waiting.ensures.waits, c.if-is_waiting.false) in record {
      told = record {
        run = old;
        of_lab = c.gone_on.ensures.before;
        full = c.in-Err.ensures.full;
        waits = λ is. absurd (both_ways _ c.in-Err.ensures.waiting is);
      };
      rests = λ is. rests;
    }
