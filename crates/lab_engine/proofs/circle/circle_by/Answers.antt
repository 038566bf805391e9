use Rattle.lab_engine.proofs.{Common.{ap, arith, get_or, get_or_default_zero, has, length, List, refl, subst, sym, ℕ, ◌&&◌, ◌+◌, ◌-◌, ◌<◌, ◌∙◌, ◌≡◌}, WaitLayers.{GoesOn, goes_on_next, some_common}}
use Rattle.lab_engine.proofs.circle.circle_by.Goals as goal

-- what is said of the layer that is read
of_layer : (layers : List ℕ) (left default own common : ℕ) → left < length layers → ((n : ℕ) → has common n ≡ (has own n && has (get_or layers left default) n))
    → (n : ℕ) → has common n ≡ (has own n && has (get_or layers left 0) n)
of_layer layers left default own common within both n = both n ∙ ap (λ l. has own n && has l n) (get_or_default_zero layers left default within)

-- one step of those that are left
of_left : (waits : List ℕ) (session between left at : ℕ) (front : List ℕ) → 0 < left → GoesOn waits session between left at front → GoesOn waits session between (left - 1 + 1) at front
of_left waits session between left at front some = subst (λ n. GoesOn waits session between n at front) (omega (arith, some))

pub loop-left-preserved-in-Some : goal.loop-left-preserved-in-Some
loop-left-preserved-in-Some c =
    let few : c.loop-left.left - 1 < 9 = omega (arith, c.loop-left.invariant.0, c.requires.bound) in (
      omega (arith, c.loop-left.invariant.0),
      subst (GoesOn c.args.waits.now c.args.session c.args.between (c.loop-left.left - 1) c.in-Some.next) (sym c.in_ok-push-2.ensures.items)
          (goes_on_next c.args.waits.now c.args.session c.args.layers.now c.args.between (c.loop-left.left - 1) c.loop-left.at c.on.result c.common.result c.loop-left.circle.items
          c.requires.layers few c.on.ensures
          (of_layer c.args.layers.now (c.loop-left.left - 1) c.index-layers-left.result c.on.result c.common.result (omega (arith, few, c.type_inv.layers)) c.common.ensures)
          (of_left c.args.waits.now c.args.session c.args.between c.loop-left.left c.loop-left.at c.loop-left.circle.items (omega (arith, c.loop-left-test.true)) c.loop-left.invariant.1)
          c.in-Some.next c.in-Some.ensures.some c.in-Some.ensures.least),
    )

pub loop-left-preserved : goal.loop-left-preserved
loop-left-preserved c =
    let few : c.loop-left.left - 1 < 9 = omega (arith, c.loop-left.invariant.0, c.requires.bound) in
    absurd (some_common c.args.waits.now c.args.session c.args.layers.now c.args.between (c.loop-left.left - 1) c.loop-left.at c.on.result c.common.result
    c.loop-left.circle.items c.requires.layers few c.on.ensures
    (of_layer c.args.layers.now (c.loop-left.left - 1) c.index-layers-left.result c.on.result c.common.result (omega (arith, few, c.type_inv.layers)) c.common.ensures)
    (of_left c.args.waits.now c.args.session c.args.between c.loop-left.left c.loop-left.at c.loop-left.circle.items (omega (arith, c.loop-left-test.true)) c.loop-left.invariant.1)
    (c.in_default.ensures.none refl))
