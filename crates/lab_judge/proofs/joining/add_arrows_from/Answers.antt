use Rattle.std.proofs.{Common.{◌*◌, arith, inl, inr}, lemmas.{Bool.{cases_lt}, Option.{slice_get_within}}}
use Rattle.lab_judge.proofs.Growing.{unchanged, grown, wider}
use Rattle.lab_judge.proofs.joining.add_arrows_from.Goals as goal

pub loop-block-init : goal.loop-block-init
loop-block-init c = unchanged (λ p q looked t. omega (arith, looked.1))

pub loop-block-preserved : goal.loop-block-preserved
loop-block-preserved c =
    grown c.loop-block.invariant c.in_ok-add_arrows_between.ensures
    (λ p q looked. elim (cases_lt q (64 * c.loop-block.block)) [
      | inl before ↦ inl (looked.0, before, looked.2)
      | inr past ↦ inr (looked.0, past, omega (arith, looked.1, looked.2, c.min-beyond.ensures, c.len-count.ensures.count))
    ])

pub returns : goal.returns
returns c = wider c.loop-block.invariant (λ p q same t.
    let within = slice_get_within _ q _ t.to in
    (same, omega (arith, within, c.loop-block-test.false, c.len-count.ensures.count), within))
