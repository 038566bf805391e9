use Rattle.std.proofs.Common.{◌∙◌}
use Rattle.lab_drawing.{specs.Readers.{count_of, leads}, proofs.KnownOrders.{told}}
use Rattle.lab_drawing.proofs.readers.has_order.Goals as goal

pub returns : goal.returns
returns c =
    let h = c.args._ties.now in
    let o = c.args._nodes.now in
    c.is_order.ensures ∙ told (leads h o) (count_of h o) c.args.graph.now c.requires.arrows _ c.in_ok-found.ensures.ordered
