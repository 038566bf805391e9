use Rattle.lab_engine.{specs.StatementsRun.{Ran}, proofs.{Common.{ap, Bool, list_any, matches, Statement, sym, ◌∙◌}, Indexed.{rest_any}}}
use Rattle.lab_engine.proofs.statements_run.StatementsRun.has_read.Goals as goal

pub returns-else-matches_any : goal.returns-else-matches_any
returns-else-matches_any c =
    let test : Statement → Bool = λ s. matches s c.args.row c.args.state in
    let list = c.deref.result.now in
    c.any_matches.ensures ∙ ap (list_any test) c.split_at.ensures.back
    ∙ rest_any test c.self.inside.indexed list (ap (list_any test) (sym c.split_at.ensures.front) ∙ sym c.matches_any.ensures ∙ c.if-matches_any.false)
    ∙ ap (list_any test) c.deref.ensures.value ∙ ap (λ (r : Ran). list_any test r.items) c.self.view_is
