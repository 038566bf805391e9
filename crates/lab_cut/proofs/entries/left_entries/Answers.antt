use Rattle.std.proofs.Common.{◌∙◌, ap, drop}
use Rattle.lab_cut.{specs.Left.{left_of}, proofs.{OneMore.{one_left}, Steps.{drop_one_more}}}
use Rattle.lab_cut.proofs.entries.left_entries.Goals as goal

pub loop-entry-preserved : goal.loop-entry-preserved
loop-entry-preserved c = record {
  left = one_left c.loop-entry.mask c.next.new.self c.next.result c.args.entries.now c.loop-entry.entry-index c.entry-item.result c.loop-entry.left.items c.push_kept.new.left.items (left_of c.args.mask.now c.args.entries.now)
      c.loop-entry-test.true c.entry-item.is c.next.ensures.kept c.next.ensures.rest c.in_ok-push_kept.ensures c.loop-entry.invariant.left;
  mask = c.next.ensures.rest ∙ ap (drop 1) c.loop-entry.invariant.mask ∙ drop_one_more c.args.mask.now c.loop-entry.entry-index;
}
