use Rattle.std.{proofs.{Common.{get_or, subst, arith}, lemmas.Option.{slice_get_within}}, specs.Prelude.{IfSome}}
use Rattle.lab_deps.specs.KindSets.{among}
use Rattle.lab_judge.{specs.Graphs.{Tie, IsLeastTie}, proofs.{Chains.{step}, LeastWalks.{steps_on, gone_along}, Nets.{least_edge}}}
use Rattle.lab_judge.proofs.walks.walk_along.Goals as goal

pub least_between-requires : goal.least_between-requires
least_between-requires c =
    let tie = (step (Tie (among c.args.allowed) c.args.net.now) c.loop-next.at c.loop-next.next-index c.args.way.now c.loop-next-test.true c.loop-next.invariant.rest).0 in
    record { from = slice_get_within _ _ _ tie.from; to = slice_get_within _ _ _ tie.to }

pub unreachable-requires : goal.unreachable-requires
unreachable-requires c =
    c.in_ok-edge.ensures.none c.in_default.is
    (step (Tie (among c.args.allowed) c.args.net.now) c.loop-next.at c.loop-next.next-index c.args.way.now c.loop-next-test.true c.loop-next.invariant.rest).0

pub loop-next-preserved : goal.loop-next-preserved
loop-next-preserved c =
    let net = c.args.net.now in
    let test = among c.args.allowed in
    let next = get_or c.args.way.now c.loop-next.next-index 0 in
    let found : IsLeastTie test net c.loop-next.at next c.in-Some.edge = subst (λ o. IfSome o (IsLeastTie test net c.loop-next.at next)) c.in-Some.is c.in_ok-edge.ensures.found in
    record {
      rest = (step (Tie test net) c.loop-next.at c.loop-next.next-index c.args.way.now c.loop-next-test.true c.loop-next.invariant.rest).1;
      least = λ h of.
          steps_on h test net.numbers c.args.from c.args.way.now c.loop-next.at c.loop-next.next-index c.loop-next.walk.items c.push.new.self.items c.in-Some.edge c.loop-next-test.true
          c.in_ok-push.ensures.items (least_edge of c.loop-next.at next c.in-Some.edge found) (c.loop-next.invariant.least h of);
    }

pub returns : goal.returns
returns c = λ h of.
    gone_along h (among c.args.allowed) c.args.net.now.numbers c.args.from c.args.way.now c.loop-next.at c.loop-next.next-index c.loop-next.walk.items (omega (arith, c.loop-next-test.false))
    (c.loop-next.invariant.least h of)
