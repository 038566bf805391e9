use Rattle.std.proofs.Common.{◌≡◌, drop}
use Rattle.lab_matrix.specs.MatrixText.{first_named}
use Rattle.lab_matrix.proofs.name.first_named.Given as goal

abbrev pub invariant-loop-case : goal.invariant-loop-case
invariant-loop-case l = first_named l.name (drop l.case-index l.among) ≡ first_named l.name l.among
