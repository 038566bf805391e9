use Rattle.std.proofs.{Common.{arith, inl, inr}, lemmas.{Bool.{cases_lt}, Option.{slice_get_within}}}
use Rattle.lab_judge.proofs.Growing.{unchanged, grown, wider}
use Rattle.lab_judge.proofs.joining.add_arrows.Goals as goal

pub loop-from-init : goal.loop-from-init
loop-from-init c = unchanged (λ p q less t. omega (arith, less))

pub loop-from-preserved : goal.loop-from-preserved
loop-from-preserved c =
    grown c.loop-from.invariant c.in_ok-add_arrows_from.ensures
    (λ p q less. elim (cases_lt p c.loop-from.from) [ inl before ↦ inl before | inr past ↦ inr (omega (arith, less, past)) ])

pub returns : goal.returns
returns c = wider c.loop-from.invariant (λ p q any t. let within = slice_get_within _ p _ t.from in omega (arith, within, c.loop-from-test.false, c.len-from-end.ensures.count))
