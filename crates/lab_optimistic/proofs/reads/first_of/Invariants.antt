use Rattle.std.proofs.Common.{◌≡◌}
use Rattle.lab_optimistic.specs.Reads.{first_in}
use Rattle.lab_optimistic.proofs.reads.first_of.Given as goal

-- the first of the rows that are left is the first of all
abbrev pub invariant-loop-row : goal.invariant-loop-row
invariant-loop-row l = first_in l.asker l.row-iterator ≡ first_in l.asker l.rows.entries
