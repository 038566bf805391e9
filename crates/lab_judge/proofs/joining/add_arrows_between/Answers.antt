use Rattle.std.{proofs.{Common.{◌≡◌, ap, sym, ◌∙◌, arith, inl, inr}, lemmas.Bool.{cases_lt}}, specs.Prelude.{slice_get}}
use Rattle.lab_judge.proofs.Growing.{unchanged, grown, wider}
use Rattle.lab_judge.proofs.joining.add_arrows_between.Goals as goal

pub returns-then-is_bare : goal.returns-then-is_bare
returns-then-is_bare c = unchanged (λ p q looked t. c.is_bare.ensures c.if-is_bare.true q t.edge looked.1 looked.2 t.is_one (ap (slice_get c.args.net.now.numbers) (sym looked.0) ∙ t.from) t.to)

pub loop-to-init : goal.loop-to-init
loop-to-init c = unchanged (λ p q looked t. omega (arith, looked.1, looked.2))

pub loop-to-preserved : goal.loop-to-preserved
loop-to-preserved c =
    grown c.loop-to.invariant c.in_ok-add_arrow.ensures (λ p q looked. elim (cases_lt q c.loop-to.to) [
      | inl before ↦ inl (looked.0, looked.1, before)
      | inr past ↦ let same : q ≡ c.loop-to.to = omega (arith, looked.2, past) in inr (looked.0, same)
    ])

pub returns : goal.returns
returns c = wider c.loop-to.invariant (λ p q looked t. (looked.0, looked.1, omega (arith, looked.2, c.loop-to-test.false)))
