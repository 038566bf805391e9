use Rattle.std.{proofs.Common.{◌∙◌, ap}, specs.FinMap.{from_sorted}}
use Rattle.lab_table.specs.Row.{Row, row_cmp}
use Rattle.lab_history.specs.declared.operation.VersionName.{VersionName}
use Rattle.lab_cut.{specs.{Cut.{renamed}, Kept.{kept_in}, MadeEntries.{made_entries}}, proofs.MadeEntries.{sorted_of}}
use Rattle.lab_cut.proofs.moved.left_view.Goals as goal

pub new-requires : goal.new-requires
new-requires c = sorted_of (λ row version. renamed (kept_in c.args.moves.now) version) c.args.view.now c.entries.result.now c.in_ok-left.left.items c.entries.ensures c.in_ok-left.ensures

pub returns : goal.returns
returns c =
    let make = λ (row : Row) (version : VersionName). renamed (kept_in c.args.moves.now) version in
    c.new.ensures ∙ ap (λ l. from_sorted {R = row_cmp} l) (c.in_ok-left.ensures ∙ ap (made_entries make) c.entries.ensures)
