use Rattle.std.proofs.Common.{◌∷◌, [], ◌++◌, sym, subst}
use Rattle.lab_deps.specs.KindBits.{Tells}
use Rattle.lab_deps.proofs.gatherer.GathererEdgeSink.take.Goals as goal

pub returns : goal.returns
returns c made es told =
    let a = c.args.self.now.arrows in
    let all = es ++ c.args.edge ∷ [] in
    let next = c.mark_edge.new.self in
    subst (λ p. Tells p next.width next.cells.items made all) (sym c.mark_edge.ensures.places)
    (subst (λ w. Tells a.places.items w next.cells.items made all) (sym c.mark_edge.ensures.width) (c.mark_edge.ensures.told made es told))
