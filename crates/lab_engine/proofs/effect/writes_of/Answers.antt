use Rattle.lab_engine.proofs.Common.{ap, get, get-from_sorted, new_states, row_cmp, ◌∙◌}
use Rattle.lab_engine.proofs.effect.writes_of.Goals as goal

pub returns : goal.returns
returns c states are runs row =
    ap (λ m. get m row) c.new.ensures
    ∙ get-from_sorted row_cmp (new_states c.in_ok-written_states.field-0.items) row c.in_ok-written_states.ensures.sorted
    ∙ c.in_ok-written_states.ensures.found states are runs row
