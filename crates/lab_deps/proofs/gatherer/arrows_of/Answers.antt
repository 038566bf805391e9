use Rattle.std.proofs.Common.{[], sym, ap, ◌∙◌, subst}
use Rattle.lab_deps.{specs.{KindBits.{place, Tells}, Numbering.{HasPlaces}, Scopes.{edges_in}}, proofs.{ExactArrows.{exact_of}, NumberedNodes.{has_place}, ScopedEdges.{are_edges}}}
use Rattle.lab_deps.proofs.gatherer.arrows_of.Goals as goal

pub versions_of_rows-requires : goal.versions_of_rows-requires
versions_of_rows-requires c =
    let h = c.args.history.now in
    subst (HasPlaces h) (sym c.places.ensures) (c.in_ok-arrows.ensures.places h c.requires.nodes)

pub returns : goal.returns
returns c =
    let h = c.args.history.now in
    let scope = c.args.scope in
    let ns = c.args.numbers.now in
    let es = edges_in scope h in
    let made = c.in_ok-arrows.arrows.places.items in
    let all = c.add_edges.new.sink.arrows in
    let told : Tells all.places.items all.width all.cells.items made es = c.in_ok-add_edges.ensures made [] (λ _. c.in_ok-arrows.ensures.told) (c.in_ok-arrows.ensures.places h c.requires.nodes) in
    record {
      exact = exact_of h es (are_edges scope h c.requires.allowed) all.places.items all.width all.cells.items made told (has_place h ns c.requires.nodes made c.in_ok-arrows.ensures.numbered);
      at = λ k n here. ap (λ ps. place ps n) told.same ∙ c.in_ok-arrows.ensures.numbered.at k n here;
    }
