use Rattle.std.{proofs.{Common.{◌≡◌, ◌∷◌, sym, subst, ◌∙◌}, lemmas.Result.{IfOk-weaker}}, specs.Prelude.{IfSome}}
use Rattle.lab_order.specs.{Least.{IsLeast}, Order.{position}, Path.{IsPath, IsShortestPath}}
use Rattle.lab_deps.specs.KindSets.{among}
use Rattle.lab_judge.{specs.{Graphs.{Tie}, LeastWalks.{GoesBy}}, proofs.Chains.{path_chain}}
use Rattle.lab_judge.proofs.findings.closed_walk.way_back.Goals as goal

pub walk_along-requires : goal.walk_along-requires
walk_along-requires c =
    let graph = c.args.graph.now in
    let path = subst (λ o. IfSome o (λ path. IsPath graph c.args.from c.args.to path.items)) c.in-Some.is c.in_ok-nodes_back.ensures.found in
    path_chain (Tie (among c.args.allowed) c.args.net.now) graph (λ a b. (c.requires.graph.arrows a b).0) c.in-Some-split_first.first.now c.in-Some-split_first.way.now c.args.to
    (subst (IsPath graph c.args.from c.args.to) (sym c.deref.ensures.value ∙ c.in-Some-split_first.ensures.cases.0) path).1

pub returns : goal.returns
returns c =
    let graph = c.args.graph.now in
    let numbers = c.args.net.now.numbers in
    let path = c.in-Some.nodes_back.items in
    let parts : path ≡ c.in-Some-split_first.first.now ∷ c.in-Some-split_first.way.now = sym c.deref.ensures.value ∙ c.in-Some-split_first.ensures.cases.0 in
    let least : IsLeast (IsShortestPath graph c.args.from c.args.to) path
    = subst (λ o. IfSome o (λ found. IsLeast (IsShortestPath graph c.args.from c.args.to) found.items)) c.in-Some.is c.in_ok-nodes_back.ensures.least in
    IfOk-weaker c.walk_along.result _ _
    (λ walk goes h e of from to. record {
      path = path;
      least = subst (λ n. IsLeast (IsShortestPath graph n (position numbers e.from)) path) (sym from) (subst (λ n. IsLeast (IsShortestPath graph c.args.from n) path) (sym to) least);
      goes = subst (λ l. GoesBy h (among c.args.allowed) numbers l walk.items) (sym parts) (goes h of);
    })
    c.walk_along.ensures
