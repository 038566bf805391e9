use Rattle.std.{proofs.Common.{◌≡◌, ◌++◌, drop}, specs.Prelude.{map}}
use Rattle.lab_compare.specs.Topics.{topic_told}
use Rattle.lab_compare.proofs.side.topic_told.Given as goal

abbrev pub invariant-loop-side : goal.invariant-loop-side
invariant-loop-side l = l.told.items ++ map (topic_told l.of) (drop l.side-index l.sides) ≡ map (topic_told l.of) l.sides
