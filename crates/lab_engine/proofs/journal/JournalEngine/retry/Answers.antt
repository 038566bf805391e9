use Rattle.lab_engine.proofs.Common.{ap, IsRetry, LogEvent, NamesLeastOfWaiting, Outcome, past_of, Permitted, subst, sym, [], ◌++◌, ◌∙◌, ◌∷◌}
use Rattle.lab_engine.proofs.journal.JournalEngine.retry.Goals as goal

pub returns-clause-ok : goal.returns-clause-ok
returns-clause-ok g c =
    let run = c.args.self.now in
    let of = c.in_ok-event.ensures.of in
    let permitted = subst (λ (e : LogEvent). Permitted g.R.Rules.kind run.setup (past_of run.log) e.session e.command e.outcome) of.2 c.in_ok-event.ensures.permitted in
    subst (λ (o : Outcome). IsRetry g.R.Rules.kind run.setup run.log c.go_on.new.self.log c.args.session o) (sym c.in_ok-answer.ensures.copy)
    (of.0, of.1, (c.in_ok-go_on.ensures.ok ∙ ap (λ (e : LogEvent). run.log ++ e ∷ []) of.2, permitted), c.in_ok-event.ensures.answered)

pub returns-clause-least : goal.returns-clause-least
returns-clause-least g c =
    let run = c.args.self.now in
    subst (λ (o : Outcome). NamesLeastOfWaiting g.R.Rules.kind run.setup (past_of run.log) c.args.session o) (sym c.in_ok-answer.ensures.copy) c.in_ok-event.ensures.least
