use Rattle.std.proofs.Common.{ap, ◌∙◌}
use Rattle.lab_compare.{specs.Cells.{cells_from, left_behind}, proofs.Left.{beginning}}
use Rattle.lab_compare.proofs.cells.cells_of.Goals as goal

pub returns : goal.returns
returns c = c.new.ensures ∙ c.in_ok-cells.ensures ∙ ap (λ left. cells_from left c.args.lines.now) (ap (λ places. left_behind c.args.log.now places) c.all.ensures.values ∙ beginning c.args.log.now)
