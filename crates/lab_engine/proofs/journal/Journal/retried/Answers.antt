use Rattle.lab_engine.{proofs.Common.{ap, Command, EngineRun, inr, Run, subst, ◌∙◌, ◌≡◌}, specs.Journal.{IsRetried}}
use Rattle.lab_engine.proofs.journal.Journal.retried.Goals as goal

pub returns : goal.returns
returns g c =
    let held = c.in_ok-command.ensures _ _ c.self.invariant.situation in
    let answers = c.in_ok-outcome.ensures.answer _ c.self.invariant.situation (inr held) c.self.invariant.waits in
    subst (λ (k : EngineRun). IsRetried g.R.Rules.kind k c.args.session (record { session = c.args.session; command = c.in_ok-command.command; outcome = c.in_ok-outcome.outcome })) c.self.view_is
    (record {
      of = (held.0, held.1, ap (λ (d : Command). record { session = c.args.session; command = d; outcome = c.in_ok-outcome.outcome }) held.2);
      permitted = answers.0;
      answered = answers.1;
      least = λ s waits. let first = held.1 in let same : held.0 ≡ s = cc in answers.2 s (held.2 ∙ ap Run same);
    })
