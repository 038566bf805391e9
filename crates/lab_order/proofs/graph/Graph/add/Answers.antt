use Rattle.std.proofs.Common.{◌<◌, sym, subst, length}
use Rattle.lab_order.proofs.Rising.{row_rises}
use Rattle.lab_order.proofs.graph.Graph.add.Goals as goal

pub insert-requires : goal.insert-requires
insert-requires c =
    row_rises c.self.inside.rows.items c.args.to c.index_mut.result.now c.self.invariant
    (subst (λ graph. c.args.to < length graph) (sym c.self.view_is) c.requires.to) c.index_mut.ensures.value
