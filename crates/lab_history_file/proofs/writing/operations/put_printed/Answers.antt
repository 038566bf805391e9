use Rattle.std.{proofs.Common.{ℕ, List, [], ◌∷◌, ◌++◌, sym, ap, ◌∙◌}, specs.Prelude.{codes}}
use Rattle.lab_history_file.proofs.WrittenTexts.{behind, printed_escape}
use Rattle.lab_history_file.proofs.writing.operations.put_printed.Goals as goal

pub returns-clause-text : goal.returns-clause-text
returns-clause-text c =
    behind _ (codes "\"") _ c.in_ok-push.ensures.items (behind _ _ (codes "\"") c.in_ok-put_statement.ensures.text c.in_ok-push-2.ensures.items)
    ∙ ap (λ (text : List ℕ). c.args.out.now.items ++ (34 ∷ (text ++ 34 ∷ []))) (sym (printed_escape c.args.statement.now c.in_ok-put_statement.ensures.in_range))
