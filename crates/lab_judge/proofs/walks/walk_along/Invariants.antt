use Rattle.std.proofs.Common.{drop}
use Rattle.lab_order.specs.Trails.{IsChainBy}
use Rattle.lab_history.specs.History.{History}
use Rattle.lab_deps.specs.KindSets.{among}
use Rattle.lab_judge.{specs.Graphs.{Tie, IsNetOf}, proofs.LeastWalks.{LeadsOn}}
use Rattle.lab_judge.proofs.walks.walk_along.Given as goal

-- a walk to where the way is now, and the rest of the way
abbrev pub invariant-loop-next : goal.invariant-loop-next
invariant-loop-next l = record {
  rest : IsChainBy (Tie (among l.fn.allowed) l.net) l.at (drop l.next-index l.way);
  least : (h : History) → IsNetOf h (among l.fn.allowed) l.net → LeadsOn h (among l.fn.allowed) l.net.numbers l.from l.way l.at l.next-index l.walk.items;
}
