use Rattle.std.{proofs.Common.{◌≡◌, ◌+◌, ◌*◌, [], ◌∷◌, ◌++◌, get_or, set, sym, ap, ◌∙◌, subst}, specs.Prelude.{bit_or}}
use Rattle.lab_deps.{specs.KindBits.{bit, place, cell_at, Tells}, proofs.ToldKinds.{told_next}}
use Rattle.lab_deps.proofs.arrows.Arrows.mark_edge.Goals as goal

pub returns-clause-told : goal.returns-clause-told
returns-clause-told c made es told =
    let a = c.args.self.now in
    let e = c.args.edge in
    let ps = a.places.items in
    let cs = a.cells.items in
    let at_is : c.at-at.result ≡ cell_at ps a.width e.from e.to =
    c.at-at.ensures ∙ (ap (λ i. i * a.width + c.place-2.result) c.place.ensures ∙ ap (λ j. place ps e.from * a.width + j) c.place-2.ensures) in
    let cells = c.mark.ensures.cells ∙ ap (λ k. set cs k (bit_or (get_or cs k 0) (bit e.kind))) at_is in
    subst (λ x. Tells ps a.width x made (es ++ e ∷ [])) (sym cells) (told_next ps a.width cs made es told e)
