use Rattle.std.proofs.Common.{◌≡◌, ◌++◌, drop}
use Rattle.lab_picture.specs.Boxes.{boxes_text}
use Rattle.lab_picture.proofs.column_boxes.put_boxes.Given as goal

abbrev pub invariant-loop-index : goal.invariant-loop-index
invariant-loop-index l = l.out.items ++ boxes_text l.frame l.arrows l.steps l.column l.index (drop l.index l.ops) ≡ l.initial.out.items ++ boxes_text l.frame l.arrows l.steps l.column 0 l.ops
