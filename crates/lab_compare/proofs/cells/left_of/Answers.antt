use Rattle.std.proofs.Common.{◌∙◌}
use Rattle.lab_compare.proofs.Left.{left_at}
use Rattle.lab_compare.proofs.cells.left_of.Goals as goal

pub returns : goal.returns
returns c = c.split_at.ensures.back ∙ left_at c.args.log.now c.args.places.now c.args.session c.get.result c.min.result c.get.ensures.value c.min.ensures
