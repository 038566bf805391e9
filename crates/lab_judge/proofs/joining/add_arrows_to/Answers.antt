use Rattle.std.proofs.{Common.{◌≡◌, ◌<◌, ◌+◌, ◌==◌, ℕ, length, get_or, refl, sym, ap, ◌∙◌, arith, inl, inr}, lemmas.Bool.{cases_lt, Decides.{Decides-by_or, Decides-eqb}}}
use Rattle.std.specs.{List.{list_any}, Prelude.{slice_get}}
use Rattle.lab_order.specs.Arrows.{before}
use Rattle.lab_deps.{proofs.NamedKinds.{all_has}}
use Rattle.lab_judge.{proofs.Growing.{unchanged, grown, wider}}
use Rattle.lab_judge.proofs.joining.add_arrows_to.Goals as goal

pub loop-from-init : goal.loop-from-init
loop-from-init c = unchanged (λ p q looked t. omega (arith, looked.0.1))

pub loop-from-preserved : goal.loop-from-preserved
loop-from-preserved c =
    grown {Both = λ p q. ((k : ℕ) × (k < c.loop-from.from-index + 1) × (get_or (before c.args.all.now c.args.to) k 0 ≡ p)) × (q ≡ c.args.to)} c.loop-from.invariant c.in_ok-add_arrow.ensures
    (λ p q looked. elim (cases_lt looked.0.0 c.loop-from.from-index) [
      | inl less ↦ inl ((looked.0.0, less, looked.0.2), looked.1)
      | inr past ↦
          let same : looked.0.0 ≡ c.loop-from.from-index = omega (arith, past, looked.0.1) in
          inr (
            sym looked.0.2 ∙ ap (λ k. get_or (before c.args.all.now c.args.to) k 0) same ∙ ap (λ l. get_or l c.loop-from.from-index 0) (sym c.before-from-items.ensures.nodes),
            looked.1,
          )
    ])

pub returns : goal.returns
returns c = wider c.loop-from.invariant (λ p q same t.
    let to = c.args.to in
    let all = c.args.all.now in
    let arrow = (c.requires.all.arrows p to).1 (record { edge = t.edge; is_one = t.is_one; kind = all_has t.edge.kind; from = t.from; to = ap (slice_get c.args.net.now.numbers) (sym same) ∙ t.to }) in
    let there = (Decides-by_or (λ n. n == p) (λ n. n ≡ p) (list_any (λ n. n == p)) (λ n. Decides-eqb n p) refl (λ _ _. refl) (before all to)).0 arrow in
    ((there.0, omega (arith, there.1, c.loop-from-test.false, ap length c.before-from-items.ensures.nodes), there.2 0), same))
