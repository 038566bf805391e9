use Rattle.std.proofs.Common.{◌∙◌, ◌++◌, [], ap}
use Rattle.lab_history.specs.VersionName.{new_states}
use Rattle.lab_cut.{specs.{Cut.{new_end}, Kept.{kept_in}, MadeEntries.{with_value, made_entries}}, proofs.OneMore.{one_made}}
use Rattle.lab_cut.proofs.tables.ends_of.Goals as goal

pub loop-row-preserved : goal.loop-row-preserved
loop-row-preserved c =
    let make = new_end (kept_in c.args.moves.now) c.args.history.now in
    let row = c.loop-row-item.result.0 in
    let made = c.new_end-state.ensures.value ∙ ap (make row) c.as_slice.ensures in
    one_made make c.args.entries.now c.loop-row.row-index c.loop-row-item.result (new_states c.loop-row.ends.items) (new_states c.push_state.new.list.items) (made_entries make c.args.entries.now)
    c.loop-row-test.true c.loop-row-item.is (c.in_ok-push_state.ensures ∙ ap (λ o. new_states c.loop-row.ends.items ++ with_value row o []) made) c.loop-row.invariant
