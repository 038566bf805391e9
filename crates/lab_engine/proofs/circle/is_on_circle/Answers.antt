use Rattle.lab_engine.proofs.{Common.{ap, both_ways, eq-eqb, IsRound, IsTrue, List, none_of, not, or_left, refl, subst, sym, ℕ, ◌↔◌, ◌∙◌}, Walks.{waited_for}, WaitLayers.{found_round, round_found}}
use Rattle.lab_engine.proofs.circle.is_on_circle.Goals as goal

pub returns-then-is_none : goal.returns-then-is_none
returns-then-is_none c =
    let session = c.args.session in
    let nobody = c.least.ensures.none (none_of _ (λ some. both_ways _ (c.is_none.ensures ∙ ap not c.if-is_none.true) some)) in (
      (λ h. absurd (both_ways _ refl h)),
      (λ round. let waiter = waited_for c.args.waits.now session round.0 round.1 in
          absurd (both_ways _ (nobody waiter.0) ((c.waiters.ensures waiter.0).1 (session, waiter.1, c.of.ensures session ∙ or_left _ _ (eq-eqb session session refl))))),
    )

pub returns : goal.returns
returns c = subst (λ b. IsTrue b ↔ ((circle : List ℕ) × IsRound c.args.waits.now c.args.session circle)) (sym c.is_some.ensures) (
  found_round c.args.waits.now c.args.session c.layers_to.result c.layers_to.ensures c.first_with.result c.first_with.ensures.bound c.first_with.ensures.has,
  round_found c.args.waits.now c.args.session c.layers_to.result c.layers_to.ensures c.first_with.result c.first_with.ensures.none,
)
