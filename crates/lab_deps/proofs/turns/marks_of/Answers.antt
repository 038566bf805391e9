use Rattle.std.proofs.{Common.{◌≡◌, ◌+◌, length, replicate, ap, ◌∙◌, arith}, lemmas.List.{length-replicate, with_items_is}}
use Rattle.lab_deps.{specs.Marks.{marked}, proofs.MarkedCells.{length_marked}}
use Rattle.lab_deps.proofs.turns.marks_of.Goals as goal

pub mark_each-requires : goal.mark_each-requires
mark_each-requires c k =
    let long : length c.deref_mut.result.now ≡ c.args.most + 1 =
    ap length (c.deref_mut.ensures.value ∙ c.in_ok-marks.ensures.items_if_clones_equal (λ y is. is)) ∙ length-replicate (c.args.most + 1) 0 in
    omega (arith, c.requires k, long)

pub returns : goal.returns
returns c =
    let zeros : c.deref_mut.result.now ≡ replicate (c.args.most + 1) 0 = c.deref_mut.ensures.value ∙ c.in_ok-marks.ensures.items_if_clones_equal (λ y is. is) in
    with_items_is c.in_ok-marks.marks c.mark_each.new.cells (ap length c.mark_each.ensures ∙ (length_marked c.args.installers.now c.deref_mut.result.now 0 1 16 ∙ c.deref_mut.ensures.len))
    ∙ (c.mark_each.ensures ∙ ap (marked 0 1 16 c.args.installers.now) zeros)
