use Rattle.std.proofs.Common.{◌≡◌, ◌++◌, drop}
use Rattle.lab_drawing.specs.Text.{escaped}
use Rattle.lab_drawing.proofs.text.put_escaped.Given as goal

abbrev pub invariant-loop-byte : goal.invariant-loop-byte
invariant-loop-byte l = l.out.items ++ escaped (drop l.byte-index l.text) ≡ l.initial.out.items ++ escaped l.text
