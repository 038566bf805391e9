use Rattle.lab_engine.proofs.Common.{ap, LogEvent, on_ok_weaker, past_of, Permitted, subst, [], ◌++◌, ◌∙◌, ◌∷◌}
use Rattle.lab_engine.proofs.journal.JournalEngine.log_step.Goals as goal

pub returns-clause-ok : goal.returns-clause-ok
returns-clause-ok g c =
    let run = c.args.self.now in
    let event = c.in_ok-event in
    let permitted = subst (λ (e : LogEvent). Permitted g.R.Rules.kind run.setup (past_of run.log) e.session e.command e.outcome) event.ensures.of event.ensures.permitted in
    on_ok_weaker c.go_on.result
    (λ longer. (event.event.outcome, ((longer ∙ ap (λ (e : LogEvent). run.log ++ e ∷ []) event.ensures.of, permitted), event.ensures.busy), event.ensures.least))
    c.go_on.ensures.ok
