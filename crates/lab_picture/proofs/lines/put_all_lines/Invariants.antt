use Rattle.std.proofs.Common.{◌≡◌, ◌++◌, ◌+◌, ◌*◌, ◌≤◌, drop}
use Rattle.lab_picture.specs.Lines.{lines_from, lines_at}
use Rattle.lab_picture.proofs.lines.put_all_lines.Given as goal

abbrev pub invariant-loop-byte : goal.invariant-loop-byte
invariant-loop-byte l = record {
  same : l.out.items ++ lines_at l.x l.line_y (lines_from l.width (drop l._byte-index l.text) l.rest) ≡ l.initial.out.items ++ lines_at l.x l.y (lines_from l.width l.text l.text);
  within : l.line_y ≤ l.y + 13 * l._byte-index;
}
