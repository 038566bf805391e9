use Rattle.std.{proofs.Common.{◌∙◌, ◌≤◌, ap, sym, subst}, specs.{List.{All, count_by}, BinaryHeap.{heap_items}}}
use Rattle.lab_order.proofs.Counted.{count_one_fewer, least_of}
use Rattle.lab_order.proofs.free_nodes.FreeNodes.pop.Goals as goal

pub returns-clause-some : goal.returns-clause-some
returns-clause-some c = λ test.
    ap (count_by test) (sym c.self.view_is)
    ∙ count_one_fewer (λ n. n.0) test c.in_ok-node.field-0 (heap_items c.pop.new.self) (heap_items c.self.inside.heap) c.in_ok-node.ensures.permutation

pub returns-clause-least : goal.returns-clause-least
returns-clause-least c =
    subst (All (λ n. c.in_ok-node.field-0.0 ≤ n)) c.self.view_is
    (least_of (λ n. n.0) c.in_ok-node.field-0 (heap_items c.self.inside.heap) (c.in_ok-node.ensures.heap_order c.self.invariant).1)
