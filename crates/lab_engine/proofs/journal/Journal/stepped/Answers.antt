use Rattle.lab_engine.proofs.Common.{Command, EngineRun, NamesLeastOf, past_of, Permitted, subst, sym}
use Rattle.lab_engine.proofs.journal.Journal.stepped.Goals as goal

pub returns-clause-permitted : goal.returns-clause-permitted
returns-clause-permitted g c =
    subst (λ (k : EngineRun). Permitted g.R.Rules.kind k.setup (past_of k.log) c.args.session c.in_ok-command.command c.in_ok-outcome.outcome) c.self.view_is
    (subst (λ (d : Command). Permitted g.R.Rules.kind c.self.inside.setup (past_of c.self.inside.log.items) c.args.session d c.in_ok-outcome.outcome) (sym c.in_ok-command.ensures.copy)
    (c.in_ok-outcome.ensures.permitted _ c.self.invariant.situation c.self.invariant.waits))

pub returns-clause-least : goal.returns-clause-least
returns-clause-least g c =
    subst (λ (k : EngineRun). NamesLeastOf g.R.Rules.kind k.setup (past_of k.log) c.args.session c.args.command.now c.in_ok-outcome.outcome) c.self.view_is
    (c.in_ok-outcome.ensures.least _ c.self.invariant.situation c.self.invariant.waits)
