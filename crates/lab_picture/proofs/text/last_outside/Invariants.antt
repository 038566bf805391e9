use Rattle.std.proofs.Common.{◌≡◌, ◌≤◌, drop}
use Rattle.lab_picture.specs.Text.{outside_from}
use Rattle.lab_picture.proofs.text.last_outside.Given as goal

abbrev pub invariant-loop-index : goal.invariant-loop-index
invariant-loop-index l = record {
  same : outside_from l.last l.depth l.index (drop l.index l.text) ≡ outside_from 0 0 0 l.text;
  within : l.last ≤ l.index;
  shallow : l.depth ≤ l.index;
}
