use Rattle.std.{proofs.Common.{◌≡◌, ◌+◌, ◌≤◌, ◌++◌, drop}, specs.FinMap.{empty}}
use Rattle.lab_cut.specs.{PartOf.{numbered}, Left.{left_of}, Kept.{new_numbers, last_writes}}
use Rattle.lab_cut.proofs.kept.Kept.of.Given as goal

abbrev pub invariant-loop-index : goal.invariant-loop-index
invariant-loop-index l = record {
  numbers : l.numbers.items ++ new_numbers l.last l.mask (drop l.index l.ops) ≡ new_numbers 0 l.initial.mask l.ops;
  writes : last_writes l.writes (left_of l.mask (numbered (l.index + 1) (drop l.index l.ops))) ≡ last_writes empty (left_of l.initial.mask (numbered 1 l.ops));
  mask : l.mask ≡ drop l.index l.initial.mask;
  few : l.last ≤ l.index;
}
