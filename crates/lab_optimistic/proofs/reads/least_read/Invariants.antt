use Rattle.std.proofs.Common.{take}
use Rattle.lab_optimistic.specs.Reads.{any_may_match, IsLeastOf}
use Rattle.lab_optimistic.proofs.reads.least_read.Given as goal

-- the conflict at the least of the rows that the statements so far may match
abbrev pub invariant-loop-statement : goal.invariant-loop-statement
invariant-loop-statement l = IsLeastOf l.asker (any_may_match (take l.statement-index l.statement-items)) l.least
