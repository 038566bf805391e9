use Rattle.lab_engine.proofs.Common.{ap, LogEvent, on_ok_weaker, past_of, Permitted, subst, [], ◌++◌, ◌∙◌, ◌∷◌}
use Rattle.lab_engine.proofs.journal.JournalEngine.log_retry.Goals as goal

pub returns-clause-ok : goal.returns-clause-ok
returns-clause-ok g c =
    let run = c.args.self.now in
    let of = c.in_ok-event.ensures.of in
    let permitted = subst (λ (e : LogEvent). Permitted g.R.Rules.kind run.setup (past_of run.log) e.session e.command e.outcome) of.2 c.in_ok-event.ensures.permitted in
    on_ok_weaker c.go_on.result
    (λ longer. (c.in_ok-event.event.outcome, (of.0, of.1, (longer ∙ ap (λ (e : LogEvent). run.log ++ e ∷ []) of.2, permitted), c.in_ok-event.ensures.answered), c.in_ok-event.ensures.least))
    c.go_on.ensures.ok
