use Rattle.std.{proofs.Common.{◌∙◌, ap, length}, specs.{Prelude.{drop}, FinMap.{from_sorted}}}
use Rattle.lab_table.specs.Row.{row_cmp}
use Rattle.lab_cut.{specs.Left.{left_of}, proofs.MadeEntries.{sorted_left}}
use Rattle.lab_cut.proofs.entries.left_view.Goals as goal

pub new-requires : goal.new-requires
new-requires c = sorted_left c.args.mask.now c.args.view.now c.entries.result.now c.in_ok-left.left.items c.entries.ensures c.in_ok-left.ensures.left

pub returns : goal.returns
returns c = record {
  left = c.new.ensures ∙ ap (λ l. from_sorted {R = row_cmp} l) (c.in_ok-left.ensures.left ∙ ap (left_of c.args.mask.now) c.entries.ensures);
  rest = c.in_ok-left.ensures.rest ∙ ap (λ es. drop (length es) c.args.mask.now) c.entries.ensures;
}
