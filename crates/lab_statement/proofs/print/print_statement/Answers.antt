use Rattle.lab_statement.proofs.{Common.{◌≡◌, ℕ, List, ◌++◌, ap, ◌∙◌, printed_statement}, StatementRead.{spells_in}, PrintedStatements.{statement_spells}}
use Rattle.lab_statement.proofs.print.print_statement.Goals as goal

pub returns-clause-again : goal.returns-clause-again
returns-clause-again c =
    let s = c.args.statement.now in
    let text : c.put_statement.new.out.items ≡ printed_statement s =
    c.in_ok-put_statement.ensures.text ∙ ap (λ (old : List ℕ). old ++ printed_statement s) c.new-text.ensures.items in
    rw text (statement_spells s c.in_ok-put_statement.ensures.in_range c.in_ok-check_statement.ensures.prints)

pub returns-clause-read : goal.returns-clause-read
returns-clause-read c = spells_in _ _ (returns-clause-again c)
