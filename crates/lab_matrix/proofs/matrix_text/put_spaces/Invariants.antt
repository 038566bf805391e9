use Rattle.std.proofs.Common.{◌≡◌, ◌-◌, ◌++◌}
use Rattle.lab_matrix.specs.MatrixText.{spaces}
use Rattle.lab_matrix.proofs.matrix_text.put_spaces.Given as goal

-- the text so far, and the spaces that are left, are the whole
abbrev pub invariant-loop-column : goal.invariant-loop-column
invariant-loop-column l = l.out.items ++ spaces (l.width - l._column) ≡ l.fn.out.items ++ spaces (l.width - l.used)
