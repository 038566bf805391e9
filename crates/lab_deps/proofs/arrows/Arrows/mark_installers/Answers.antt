use Rattle.std.proofs.{Common.{◌<◌, ◌+◌, ◌*◌, length, get_or, sym, ap, ◌∙◌, subst}, lemmas.List.{with_items_is}}
use Rattle.lab_deps.{specs.{Marks.{turns_marked}}, proofs.MarkedCells.{in_row, in_column, length_turns}}
use Rattle.lab_deps.proofs.arrows.Arrows.mark_installers.Goals as goal

pub mark_beside-requires-clause-row : goal.mark_beside-requires-clause-row
mark_beside-requires-clause-row c k =
    let a = c.args.self.now in
    let n = get_or c.args.installers.now k 0 in
    subst (λ xs. c.args.reader * a.width + n * 1 < length xs) (sym c.deref_mut.ensures.value) (in_row a.width c.args.reader c.args.most a.cells.items c.requires.reach n (c.requires.most k))

pub mark_beside-requires-clause-column : goal.mark_beside-requires-clause-column
mark_beside-requires-clause-column c k =
    let a = c.args.self.now in
    let n = get_or c.args.installers.now k 0 in
    subst (λ xs. c.args.reader + n * a.width < length xs) (sym c.deref_mut.ensures.value) (in_column a.width c.args.reader c.args.most a.cells.items c.requires.reach n (c.requires.most k))

pub returns-clause-cells : goal.returns-clause-cells
returns-clause-cells c =
    let a = c.args.self.now in
    let ns = c.args.installers.now in
    with_items_is a.cells c.mark_beside.new.cells (ap length c.mark_beside.ensures ∙ (length_turns a.width c.args.reader c.args.place ns c.deref_mut.result.now ∙ c.deref_mut.ensures.len))
    ∙ (c.mark_beside.ensures ∙ ap (turns_marked a.width c.args.reader c.args.place ns) c.deref_mut.ensures.value)
