use Rattle.std.proofs.{Common.{◌≡◌, ◌<◌, ◌+◌, ◌*◌, ◌∷◌, length, drop, get_or, sym, ap, ◌∙◌, subst}, lemmas.List.{drop_all, drop_more}}
use Rattle.lab_deps.{specs.Marks.{or_at, marked}, proofs.MarkedCells.{length_or}}
use Rattle.lab_deps.proofs.turns.mark_each.Goals as goal

pub mark_at-requires : goal.mark_at-requires
mark_at-requires c =
    let i = c.loop-number.number-index in
    subst (λ l. c.args.first + get_or c.args.numbers.now i 0 * c.args.step < l) (sym c.loop-number.invariant.0) (c.requires i)

pub loop-number-preserved : goal.loop-number-preserved
loop-number-preserved c =
    let ns = c.args.numbers.now in
    let i = c.loop-number.number-index in
    let n = get_or ns i 0 in
    let cs = c.loop-number.cells in
    let first = c.args.first in
    let step = c.args.step in
    let bits = c.args.bits in
    let left : drop i ns ≡ n ∷ drop (i + 1) ns = drop_more ns i 0 c.loop-number-test.true in
    let next : c.mark_at.new.cells ≡ or_at cs (first + n * step) bits = c.mark_at.ensures in (
      ap length next ∙ (length_or cs (first + n * step) bits ∙ c.loop-number.invariant.0),
      ap (marked first step bits (drop (i + 1) ns)) next ∙ (sym (ap (λ ms. marked first step bits ms cs) left) ∙ c.loop-number.invariant.1),
    )

pub returns : goal.returns
returns c =
    sym (ap (λ ms. marked c.args.first c.args.step c.args.bits ms c.loop-number.cells) (drop_all c.loop-number.number-index c.args.numbers.now c.loop-number-test.false)) ∙ c.loop-number.invariant.1
