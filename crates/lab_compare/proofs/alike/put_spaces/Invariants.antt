use Rattle.std.proofs.Common.{◌≡◌, ◌-◌, ◌++◌}
use Rattle.lab_matrix.specs.MatrixText.{spaces}
use Rattle.lab_compare.proofs.alike.put_spaces.Given as goal

-- the text so far, and the spaces that are left, are the whole
abbrev pub invariant-loop-column : goal.invariant-loop-column
invariant-loop-column l = l.out.items ++ spaces (12 - l._column) ≡ l.fn.out.items ++ spaces (12 - l.used)
