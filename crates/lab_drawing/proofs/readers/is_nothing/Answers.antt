use Rattle.std.proofs.Common.{sym, ap, ◌∙◌, length, ◌==◌}
use Rattle.lab_history.proofs.CountedEntries.{length_new_states}
use Rattle.lab_drawing.proofs.readers.is_nothing.Goals as goal

pub returns : goal.returns
returns c = c.is_empty.ensures ∙ ap (λ n. n == 0) (sym (length_new_states c.entries.result.now) ∙ ap length c.entries.ensures)
