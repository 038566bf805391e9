use Rattle.std.proofs.Common.{◌≡◌, ◌++◌, drop}
use Rattle.lab_explain.specs.Lines.{first_lines}
use Rattle.lab_explain.proofs.lines.put_first_lines.Given as goal

abbrev pub invariant-loop-byte : goal.invariant-loop-byte
invariant-loop-byte l = l.out.items ++ first_lines l.left (drop l.byte-index l.text) ≡ l.initial.out.items ++ first_lines l.most l.text
