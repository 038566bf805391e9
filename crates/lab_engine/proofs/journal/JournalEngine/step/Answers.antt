use Rattle.lab_engine.proofs.Common.{ap, IsStep, LogEvent, NamesLeastOf, Outcome, past_of, Permitted, subst, sym, [], ◌++◌, ◌∙◌, ◌∷◌}
use Rattle.lab_engine.proofs.journal.JournalEngine.step.Goals as goal

pub returns-clause-ok : goal.returns-clause-ok
returns-clause-ok g c =
    let run = c.args.self.now in
    let permitted = subst (λ (e : LogEvent). Permitted g.R.Rules.kind run.setup (past_of run.log) e.session e.command e.outcome) c.in_ok-event.ensures.of c.in_ok-event.ensures.permitted in
    subst (λ (o : Outcome). IsStep g.R.Rules.kind run.setup run.log c.go_on.new.self.log c.args.session c.args.command.now o) (sym c.in_ok-answer.ensures.copy)
    ((c.in_ok-go_on.ensures.ok ∙ ap (λ (e : LogEvent). run.log ++ e ∷ []) c.in_ok-event.ensures.of, permitted), c.in_ok-event.ensures.busy)

pub returns-clause-least : goal.returns-clause-least
returns-clause-least g c =
    let run = c.args.self.now in
    subst (λ (o : Outcome). NamesLeastOf g.R.Rules.kind run.setup (past_of run.log) c.args.session c.args.command.now o) (sym c.in_ok-answer.ensures.copy) c.in_ok-event.ensures.least
