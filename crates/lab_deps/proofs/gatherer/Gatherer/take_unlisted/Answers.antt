use Rattle.std.{proofs.{Common.{◌++◌, sym, ap, ◌∙◌, subst}, lemmas.Result.{on_ok_weaker}}, specs.Prelude.{IfSome}}
use Rattle.lab_deps.{specs.{EdgesByRow.{walked, unlisted}, KindBits.{Tells}, Marks.{turns_marked}, Numbering.{FitsVersions}, Turns.{TurnsFor}}, proofs.{MarkedTurns.{told_turns}}}
use Rattle.lab_deps.proofs.gatherer.Gatherer.take_unlisted.Goals as goal

pub returns-else-is_ready : goal.returns-else-is_ready
returns-else-is_ready c =
    on_ok_weaker c.add_edges.result
    (λ grows made es so_far fit. subst (λ r. Tells c.add_edges.new.sink.arrows.places.items c.add_edges.new.sink.arrows.width c.add_edges.new.sink.arrows.cells.items made (es ++ walked c.args.statement.now r c.args.versions.now))
    c.unlisted.ensures (grows made es (so_far fit))) c.add_edges.ensures

pub returns-then-not-reaches : goal.returns-then-not-reaches
returns-then-not-reaches c =
    let added = c.add_edges-then-not-reaches in
    let arrows = added.new.sink.arrows in
    on_ok_weaker added.result
    (λ grows made es so_far fit. subst (λ r. Tells arrows.places.items arrows.width arrows.cells.items made (es ++ walked c.args.statement.now r c.args.versions.now))
    c.unlisted-then-not-reaches.ensures (grows made es (so_far fit))) added.ensures

pub mark_turns-requires-clause-most : goal.mark_turns-requires-clause-most
mark_turns-requires-clause-most c =
    let turns = subst (λ o. IfSome o (λ kept. TurnsFor c.args.statement.now c.args.reading.row c.args.versions.now kept.now.turns)) c.in-Some.is c.in_ok-turns.ensures in
    turns.most

pub mark_turns-requires-clause-marks : goal.mark_turns-requires-clause-marks
mark_turns-requires-clause-marks c =
    let turns = subst (λ o. IfSome o (λ kept. TurnsFor c.args.statement.now c.args.reading.row c.args.versions.now kept.now.turns)) c.in-Some.is c.in_ok-turns.ensures in
    turns.marks

pub returns-else-not-reaches : goal.returns-else-not-reaches
returns-else-not-reaches c made es so_far fit =
    let s = c.args.statement.now in
    let r = c.args.reading in
    let chain = c.args.versions.now in
    let a = c.args.self.now.arrows in
    let ps = a.places.items in
    let next = c.mark_turns.new.self in
    let told = so_far fit in
    let all = es ++ walked s (unlisted r) chain in
    let turns = subst (λ o. IfSome o (λ kept. TurnsFor s r.row chain kept.now.turns)) c.in-Some.is c.in_ok-turns.ensures in
    let turned = told_turns ps a.width made s r chain c.in-Some.kept.now.turns turns (subst (FitsVersions chain.items) (sym told.same) fit) a.cells.items es told in
    let cells = c.mark_turns.ensures.cells ∙ ap (λ n. turns_marked a.width n r.place c.in-Some.kept.now.turns.installers.items a.cells.items) c.place-reader.ensures in
    subst (λ p. Tells p next.width next.cells.items made all) (sym c.mark_turns.ensures.places)
    (subst (λ w. Tells ps w next.cells.items made all) (sym c.mark_turns.ensures.width) (subst (λ xs. Tells ps a.width xs made all) (sym cells) turned))
