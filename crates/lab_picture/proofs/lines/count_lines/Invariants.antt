use Rattle.std.proofs.Common.{◌≡◌, ◌+◌, ◌≤◌, drop, length}
use Rattle.lab_picture.specs.Lines.{lines_from}
use Rattle.lab_picture.proofs.lines.count_lines.Given as goal

abbrev pub invariant-loop-byte : goal.invariant-loop-byte
invariant-loop-byte l = record {
  same : l.count + length (lines_from l.width (drop l._byte-index l.text) l.rest) ≡ length (lines_from l.width l.text l.text);
  within : l.count ≤ l._byte-index;
}
