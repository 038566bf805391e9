use Rattle.std.proofs.Common.{◌≡◌, ◌≤◌, drop}
use Rattle.lab_picture.specs.Text.{last_from}
use Rattle.lab_picture.proofs.text.last_blank.Given as goal

abbrev pub invariant-loop-index : goal.invariant-loop-index
invariant-loop-index l = record {
  same : last_from l.last l.index (drop l.index l.text) ≡ last_from 0 0 l.text;
  within : l.last ≤ l.index;
}
