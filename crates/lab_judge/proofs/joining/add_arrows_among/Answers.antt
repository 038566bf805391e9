use Rattle.std.proofs.{Common.{arith, inl, inr}, lemmas.{Bool.{cases_lt}, Option.{slice_get_within}}}
use Rattle.lab_judge.proofs.Growing.{unchanged, grown, wider}
use Rattle.lab_judge.proofs.joining.add_arrows_among.Goals as goal

pub loop-to-init : goal.loop-to-init
loop-to-init c = unchanged (λ p q less t. omega (arith, less))

pub loop-to-preserved : goal.loop-to-preserved
loop-to-preserved c =
    grown c.loop-to.invariant c.in_ok-add_arrows_to.ensures
    (λ p q less. elim (cases_lt q c.loop-to.to) [ inl before ↦ inl before | inr past ↦ inr (omega (arith, less, past)) ])

pub returns : goal.returns
returns c = wider c.loop-to.invariant (λ p q any t. let within = slice_get_within _ q _ t.to in omega (arith, within, c.loop-to-test.false, c.len-to-end.ensures.count))
