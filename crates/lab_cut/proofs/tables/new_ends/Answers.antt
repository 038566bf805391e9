use Rattle.std.{proofs.Common.{◌∙◌, ap}, specs.FinMap.{entries, from_sorted}}
use Rattle.lab_table.specs.Row.{row_cmp}
use Rattle.lab_history.specs.VersionName.{new_states}
use Rattle.lab_cut.{specs.{Cut.{new_end}, Kept.{kept_in}, MadeEntries.{made_entries}}, proofs.MadeEntries.{sorted_of}}
use Rattle.lab_cut.proofs.tables.new_ends.Goals as goal

pub new-requires : goal.new-requires
new-requires c =
    sorted_of (new_end (kept_in c.args.moves.now) c.args.history.now) c.args.history.now.installed c.entries.result.now (new_states c.in_ok-ends.ends.items)
    (c.entries.ensures ∙ ap entries c.installed.ensures) c.in_ok-ends.ensures

pub returns : goal.returns
returns c =
    c.new.ensures
    ∙ ap (λ l. from_sorted {R = row_cmp} l) (c.in_ok-ends.ensures ∙ ap (made_entries (new_end (kept_in c.args.moves.now) c.args.history.now)) (c.entries.ensures ∙ ap entries c.installed.ensures))
