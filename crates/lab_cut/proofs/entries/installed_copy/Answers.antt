use Rattle.std.{proofs.Common.{◌∙◌, sym, ap, subst, T}, specs.FinMap.{from_sorted, is_sorted, entries_sorted}}
use Rattle.lab_table.specs.Row.{row_cmp}
use Rattle.lab_cut.proofs.Overlays.{same_map_again}
use Rattle.lab_cut.proofs.entries.installed_copy.Goals as goal

pub new-requires : goal.new-requires
new-requires c = subst (λ l. T (is_sorted row_cmp l)) (sym (c.in_ok-copy.ensures ∙ c.entries.ensures)) (entries_sorted c.args.installed.now)

pub returns : goal.returns
returns c = c.new.ensures ∙ ap (λ l. from_sorted {R = row_cmp} l) (c.in_ok-copy.ensures ∙ c.entries.ensures) ∙ same_map_again c.args.installed.now
