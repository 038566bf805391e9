use Rattle.std.proofs.Common.{◌∙◌, sym, subst}
use Rattle.lab_order.specs.Trails.{IsRing, IsChainBy}
use Rattle.lab_deps.specs.KindSets.{among}
use Rattle.lab_judge.{specs.{Graphs.{Tie}, LeastWalks.{GoesAlong, GoesRound}}, proofs.{Chains.{trail_chain, ring_parts}}}
use Rattle.lab_judge.proofs.walks.walk_round.Goals as goal

pub walk_along-requires : goal.walk_along-requires
walk_along-requires c =
    let tie = Tie (among c.args.allowed) c.args.net.now in
    let parts = ring_parts tie c.args.circle.items c.requires c.index-first.result.now c.deref.result.now c.index-first.ensures (c.deref.ensures.value ∙ c.in_ok-push.ensures.items) in
    subst (IsChainBy tie c.index-first.result.now) (sym parts.2)
    (trail_chain tie c.index-first.result.now parts.0 c.index-first.result.now (subst (IsRing tie) parts.1 c.requires))

pub returns : goal.returns
returns c = λ h of.
    let test = among c.args.allowed in
    let numbers = c.args.net.now.numbers in
    let parts = ring_parts (Tie test c.args.net.now) c.args.circle.items c.requires c.index-first.result.now c.deref.result.now c.index-first.ensures (c.deref.ensures.value ∙ c.in_ok-push.ensures.items) in
    subst (GoesRound h test numbers c.args.circle.items) (sym c.new.ensures)
    (subst (λ l. GoesRound h test numbers l c.in_ok-walk_along.field-0.items) (sym parts.1)
    (subst (λ l. GoesAlong h test numbers c.index-first.result.now l c.in_ok-walk_along.field-0.items) parts.2 (c.in_ok-walk_along.ensures h of)))
