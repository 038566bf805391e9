use Rattle.std.{proofs.Common.{◌∙◌, ap, drop}, specs.FinMap.{empty}}
use Rattle.lab_cut.{specs.{PartOf.{numbered}, Left.{left_of}, Kept.{new_numbers, last_writes}}, proofs.{KeptSteps.{one_number, one_write, one_counted}, Steps.{drop_one_more}}}
use Rattle.lab_cut.proofs.kept.Kept.of.Goals as goal

pub loop-index-preserved : goal.loop-index-preserved
loop-index-preserved c =
    let mask = c.args.mask.now in
    let ops = c.args.ops.now in
    let i = c.loop-index.index in
    record {
      numbers = one_number c.loop-index.mask c.next.new.self c.next.result ops i c.index-ops-index.result c.loop-index.last c.in_ok-last.last c.loop-index.numbers.items c.note.new.numbers.items (new_numbers 0 mask ops)
          c.loop-index-test.true c.index-ops-index.is c.next.ensures.kept c.next.ensures.rest c.in_ok-last.ensures.count c.in_ok-last.ensures.numbers c.loop-index.invariant.numbers;
      writes = one_write c.loop-index.mask c.next.new.self c.next.result ops i c.index-ops-index.result c.loop-index.writes c.note.new.writes (last_writes empty (left_of mask (numbered 1 ops)))
          c.loop-index-test.true c.index-ops-index.is c.next.ensures.kept c.next.ensures.rest c.in_ok-last.ensures.writes c.loop-index.invariant.writes;
      mask = c.next.ensures.rest ∙ ap (drop 1) c.loop-index.invariant.mask ∙ drop_one_more mask i;
      few = one_counted c.next.result c.loop-index.last c.in_ok-last.last i c.in_ok-last.ensures.count c.loop-index.invariant.few;
    }
