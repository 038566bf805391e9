use Rattle.std.proofs.{Common.{length, sym, ap, ◌∙◌, subst}, lemmas.List.{with_items_is}}
use Rattle.lab_deps.{specs.{Marks.{turns_marked, Reaches}}, proofs.MarkedCells.{length_turns}}
use Rattle.lab_deps.proofs.arrows.Arrows.mark_turns.Goals as goal

pub mark-requires-clause-reach : goal.mark-requires-clause-reach
mark-requires-clause-reach c = subst (λ xs. Reaches c.args.self.now.width xs c.args.reader c.args.turns.now.most) (sym c.deref_mut.ensures.value) c.requires.reach

pub returns-clause-cells : goal.returns-clause-cells
returns-clause-cells c =
    let a = c.args.self.now in
    let ns = c.args.turns.now.installers.items in
    with_items_is a.cells c.mark.new.cells (ap length c.mark.ensures ∙ (length_turns a.width c.args.reader c.args.place ns c.deref_mut.result.now ∙ c.deref_mut.ensures.len))
    ∙ (c.mark.ensures ∙ ap (turns_marked a.width c.args.reader c.args.place ns) c.deref_mut.ensures.value)
