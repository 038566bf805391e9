use Rattle.std.{proofs.{Common.{◌∷◌, ◌<◌, ℕ, sym, subst}, lemmas.Option.{slice_get_within}}, specs.Prelude.{IfSome}}
use Rattle.lab_order.specs.Path.{Reaches}
use Rattle.lab_deps.specs.KindSets.{among}
use Rattle.lab_judge.{specs.{Graphs.{Tie, IsLeastTie}, LeastWalks.{IsFirstOpening, IsTurnToLeast}}, proofs.{FirstOpenings.{is_first}, Nets.{edge_graph, net_for}, Numbers.{at_its_place}, OpenedWalks.{none_opened}}}
use Rattle.lab_judge.proofs.findings.closed_walk.find_opened.Goals as goal

pub returns-in_default : goal.returns-in_default
returns-in_default c = λ h of.
    none_opened of (among c.args.allowed) (among c.args.opening) c.args.graph.now c.requires.graph c.requires.allowed
    (λ p q back. c.first_opening.ensures.none c.in_default.is p q (subst (λ g. Reaches g q p) (sym c.requires.ways) back))

pub least_between-requires : goal.least_between-requires
least_between-requires c =
    let tie = (subst (λ o. IfSome o (λ ends. Tie (among c.args.opening) c.args.net.now ends.from ends.to × Reaches c.args.ways.now ends.to ends.from)) c.in-Some.is c.first_opening.ensures.found).0 in
    record { from = slice_get_within _ _ _ tie.from; to = slice_get_within _ _ _ tie.to }

pub unreachable-requires : goal.unreachable-requires
unreachable-requires c =
    c.in_ok-edge.ensures.none c.in_default-2.is
    (subst (λ o. IfSome o (λ ends. Tie (among c.args.opening) c.args.net.now ends.from ends.to × Reaches c.args.ways.now ends.to ends.from)) c.in-Some.is c.first_opening.ensures.found).0

pub way_back-requires-clause-back : goal.way_back-requires-clause-back
way_back-requires-clause-back c =
    subst (λ g. Reaches g c.in-Some.ends.to c.in-Some.ends.from) c.requires.ways
    (subst (λ o. IfSome o (λ ends. Tie (among c.args.opening) c.args.net.now ends.from ends.to × Reaches c.args.ways.now ends.to ends.from)) c.in-Some.is c.first_opening.ensures.found).1

pub returns : goal.returns
returns c = λ h of.
    let opening = among c.args.opening in
    let net = c.args.net.now in
    let ways = c.args.ways.now in
    let edge = c.in-Some-2.edge in
    let found : Tie opening net c.in-Some.ends.from c.in-Some.ends.to × Reaches ways c.in-Some.ends.to c.in-Some.ends.from
    = subst (λ o. IfSome o (λ ends. Tie opening net ends.from ends.to × Reaches ways ends.to ends.from)) c.in-Some.is c.first_opening.ensures.found in
    let first = subst (λ o. IfSome o (λ ends. (p q : ℕ) → p < ends.from → Reaches ways q p → ¬ Tie opening net p q)) c.in-Some.is c.first_opening.ensures.first in
    let next = subst (λ o. IfSome o (λ ends. (q : ℕ) → q < ends.to → Reaches ways q ends.from → ¬ Tie opening net ends.from q)) c.in-Some.is c.first_opening.ensures.next in
    let least : IsLeastTie opening net c.in-Some.ends.from c.in-Some.ends.to edge = subst (λ o. IfSome o (IsLeastTie opening net c.in-Some.ends.from c.in-Some.ends.to)) c.in-Some-2.is c.in_ok-edge.ensures.found in
    record {
      txns = net.numbers;
      committed = of.committed;
      graph = c.args.graph.now;
      edges = edge_graph (net_for (among c.args.allowed) of) c.args.graph.now c.requires.graph;
      edge = edge;
      first = subst (λ g. IsFirstOpening h opening g net.numbers edge) c.requires.ways (is_first of opening ways c.in-Some.ends.from c.in-Some.ends.to first next found.1 edge least);
      back = c.in_ok-walk.walk.items;
      way = c.in_ok-walk.ensures h edge (net_for (among c.args.allowed) of) (at_its_place net.numbers of.committed.rising c.in-Some.ends.to edge.to least.to)
          (at_its_place net.numbers of.committed.rising c.in-Some.ends.from edge.from least.from);
      turned = subst (IsTurnToLeast (edge ∷ c.in_ok-walk.walk.items)) (sym c.new.ensures)
          (subst (λ l. IsTurnToLeast l c.with_least_first.result.items) c.in_ok-insert.ensures.items c.with_least_first.ensures);
    }
