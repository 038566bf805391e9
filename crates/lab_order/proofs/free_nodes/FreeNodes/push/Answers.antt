use Rattle.std.{proofs.Common.{◌∙◌, ◌+◌, ap, cond}, specs.{List.{count_by}, BinaryHeap.{heap_items}}}
use Rattle.lab_order.proofs.Counted.{count_one_more}
use Rattle.lab_order.proofs.free_nodes.FreeNodes.push.Goals as goal

pub returns : goal.returns
returns c = λ test.
    count_one_more (λ n. n.0) test _ (heap_items c.self.inside.heap) (heap_items c.push.new.self) c.in_ok-push.ensures.permutation
    ∙ ap (λ nodes. cond (test c.args.node) 1 0 + count_by test nodes) c.self.view_is
