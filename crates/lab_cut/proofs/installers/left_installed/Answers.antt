use Rattle.std.{proofs.Common.{◌∙◌, ap}, specs.FinMap.{entries, from_sorted}}
use Rattle.lab_table.specs.Row.{row_cmp}
use Rattle.lab_cut.{specs.{Cut.{left_list}, Kept.{kept_in}, MadeEntries.{made_entries}}, proofs.MadeEntries.{sorted_of}}
use Rattle.lab_cut.proofs.installers.left_installed.Goals as goal

pub new-requires : goal.new-requires
new-requires c =
    sorted_of (left_list (kept_in c.args.moves.now) c.args.history.now) c.args.history.now.installed c.entries.result.now c.in_ok-left.left.items
    (c.entries.ensures ∙ ap entries c.installed.ensures) c.in_ok-left.ensures

pub returns : goal.returns
returns c =
    c.new.ensures
    ∙ ap (λ l. from_sorted {R = row_cmp} l) (c.in_ok-left.ensures ∙ ap (made_entries (left_list (kept_in c.args.moves.now) c.args.history.now)) (c.entries.ensures ∙ ap entries c.installed.ensures))
