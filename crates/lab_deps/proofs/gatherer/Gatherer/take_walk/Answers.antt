use Rattle.std.proofs.{Common.{◌++◌, ◌≤◌, false, get_or, sym, ap, ◌∙◌, subst}, lemmas.Result.{on_ok_weaker}}
use Rattle.lab_table.specs.Statement.{matches}
use Rattle.lab_deps.{specs.{EdgesByRow.{walked, unlisted}, KindBits.{place, Tells}, Marks.{turns_marked}, Numbering.{FitsVersions}, Turns.{asked, states, AreInstallers}}, proofs.{MarkedTurns.{told_installers}}}
use Rattle.lab_deps.proofs.gatherer.Gatherer.take_walk.Goals as goal

pub returns-then-not-reaches : goal.returns-then-not-reaches
returns-then-not-reaches c =
    on_ok_weaker c.add_edges.result
    (λ grows made es so_far fit. subst (λ r. Tells c.add_edges.new.sink.arrows.places.items c.add_edges.new.sink.arrows.width c.add_edges.new.sink.arrows.cells.items made (es ++ walked c.args.statement.now r c.args.versions.now))
    c.unlisted.ensures (grows made es (so_far fit))) c.add_edges.ensures

pub mark_installers-requires-clause-most : goal.mark_installers-requires-clause-most
mark_installers-requires-clause-most c k = subst (λ ns. get_or ns k 0 ≤ c.greatest-most.result) (c.deref.ensures.value ∙ sym c.deref-2.ensures.value) (c.greatest-most.ensures k)

pub returns : goal.returns
returns c made es so_far fit =
    let s = c.args.statement.now in
    let r = c.args.reading in
    let chain = c.args.versions.now in
    let f = matches s r.row in
    let a = c.args.self.now.arrows in
    let ps = a.places.items in
    let next = c.mark_installers.new.self in
    let told = so_far fit in
    let all = es ++ walked s (unlisted r) chain in
    let ns = c.turned_along.new.found.items in
    let first = subst (λ b. AreInstallers false (asked f b (states c.as_slice.result.now)) c.as_slice.result.now ns) c.initial.ensures c.in_ok-turned_along.ensures in
    let installers = subst (λ vs. AreInstallers false (asked f chain.before (states vs)) vs ns) c.as_slice.ensures first in
    let turned = told_installers ps a.width made s r chain ns installers (subst (FitsVersions chain.items) (sym told.same) fit) a.cells.items es told in
    let cells =
    c.mark_installers.ensures.cells ∙ (ap (λ n. turns_marked a.width n r.place c.deref-2.result.now a.cells.items) c.place-reader.ensures ∙ ap (λ ms. turns_marked a.width (place ps r.txn) r.place ms a.cells.items) c.deref-2.ensures.value) in
    subst (λ p. Tells p next.width next.cells.items made all) (sym c.mark_installers.ensures.places)
    (subst (λ w. Tells ps w next.cells.items made all) (sym c.mark_installers.ensures.width) (subst (λ xs. Tells ps a.width xs made all) (sym cells) turned))
