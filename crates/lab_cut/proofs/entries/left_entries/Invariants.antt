use Rattle.std.proofs.Common.{◌≡◌, ◌++◌, drop}
use Rattle.lab_cut.specs.Left.{left_of}
use Rattle.lab_cut.proofs.entries.left_entries.Given as goal

abbrev pub invariant-loop-entry : goal.invariant-loop-entry
invariant-loop-entry l = record {
  left : l.left.items ++ left_of l.mask (drop l.entry-index l.entries) ≡ left_of l.initial.mask l.entries;
  mask : l.mask ≡ drop l.entry-index l.initial.mask;
}
