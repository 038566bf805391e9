use Rattle.std.proofs.{Common.{◌≡◌, ◌+◌, ◌∷◌, length, get_or, drop, refl, sym, ap, ◌∙◌, arith}, lemmas.List.{drop_all, drop_more}}
use Rattle.lab_deps.{specs.Marks.{or_at, all_marked}, proofs.MarkedCells.{length_or}}
use Rattle.lab_deps.proofs.turns.mark_all.Goals as goal

pub loop-index-init : goal.loop-index-init
loop-index-init c =
    let start : c.args.first + 0 ≡ c.args.first = omega arith in
    (refl, ap (λ k. all_marked k c.args.marks.now c.args.cells.now) start)

pub mark_at-requires : goal.mark_at-requires
mark_at-requires c = omega (arith, c.requires, c.loop-index-test.true, c.loop-index.invariant.0)

pub loop-index-preserved : goal.loop-index-preserved
loop-index-preserved c =
    let ms = c.args.marks.now in
    let i = c.loop-index.index in
    let m = get_or ms i 0 in
    let cs = c.loop-index.cells in
    let k = c.args.first + i in
    let left : drop i ms ≡ m ∷ drop (i + 1) ms = drop_more ms i 0 c.loop-index-test.true in
    let on : c.args.first + (i + 1) ≡ k + 1 = omega arith in
    let next : c.mark_at.new.cells ≡ or_at cs k m = c.mark_at.ensures in (
      ap length next ∙ (length_or cs k m ∙ c.loop-index.invariant.0),
      ap (λ n. all_marked n (drop (i + 1) ms) c.mark_at.new.cells) on ∙ (ap (all_marked (k + 1) (drop (i + 1) ms)) next ∙ (sym (ap (λ ns. all_marked k ns cs) left) ∙ c.loop-index.invariant.1)),
    )

pub returns : goal.returns
returns c = sym (ap (λ ns. all_marked (c.args.first + c.loop-index.index) ns c.loop-index.cells) (drop_all c.loop-index.index c.args.marks.now c.loop-index-test.false)) ∙ c.loop-index.invariant.1
