use Rattle.std.proofs.Common.{◌∙◌, ap, drop, map}
use Rattle.lab_cut.{specs.{Cut.{left_op}, Kept.{kept_in}, Left.{left_of}}, proofs.{OneMore.{one_left_made}, Steps.{drop_one_more}}}
use Rattle.lab_cut.proofs.moved.left_ops.Goals as goal

pub loop-op-preserved : goal.loop-op-preserved
loop-op-preserved c =
    let make = left_op (kept_in c.args.moves.now) in
    record {
      left = one_left_made make c.loop-op.mask c.next.new.self c.next.result c.args.ops.now c.loop-op.op-index c.op-item.result c.loop-op.left.items c.push_kept.new.left.items (map make (left_of c.args.mask.now c.args.ops.now))
          c.loop-op-test.true c.op-item.is c.next.ensures.kept c.next.ensures.rest c.in_ok-push_kept.ensures c.loop-op.invariant.left;
      mask = c.next.ensures.rest ∙ ap (drop 1) c.loop-op.invariant.mask ∙ drop_one_more c.args.mask.now c.loop-op.op-index;
    }
