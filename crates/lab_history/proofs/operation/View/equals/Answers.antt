use Rattle.std.{proofs.Common.{sym, ap, ◌∙◌}, specs.FinMap.{entries, same_entries_map}}
use Rattle.lab_history.proofs.operation.View.equals.Goals as goal

pub returns : goal.returns
returns c =
    (λ t. same_entries_map _ _ (sym c.entries.ensures ∙ c.are_same.ensures.0 t ∙ c.entries-2.ensures), λ e. c.are_same.ensures.1 (c.entries.ensures ∙ ap entries e ∙ sym c.entries-2.ensures))
