use Rattle.std.proofs.{Common.{◌∙◌}, lemmas.List.{length-set}}
use Rattle.lab_judge.proofs.NodePlaces.{set_next, all_placed}
use Rattle.lab_judge.proofs.placing.places_in.Goals as goal

pub loop-place-preserved : goal.loop-place-preserved
loop-place-preserved c = record {
  size = length-set c.loop-place.places.items _ _ ∙ c.loop-place.invariant.size;
  set = set_next c.loop-place.places.items c.args.order.now c.args.count c.loop-place.invariant.size c.requires.within c.requires.once c.loop-place.place c.loop-place-test.true
      c.loop-place.invariant.set;
}

pub returns-clause-places : goal.returns-clause-places
returns-clause-places c = all_placed c.loop-place.places.items c.args.order.now c.loop-place.place c.loop-place-test.false c.loop-place.invariant.set
