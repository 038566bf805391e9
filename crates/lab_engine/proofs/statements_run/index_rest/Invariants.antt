use Rattle.lab_engine.proofs.Common.{take, ◌++◌}
use Rattle.lab_conditions.specs.Index.{Covers}
use Rattle.lab_engine.proofs.statements_run.index_rest.Given as goal

-- the index covers the statements that it covered, and those of the others so far
abbrev pub invariant-loop-statement : goal.invariant-loop-statement
invariant-loop-statement l = Covers l.index (take l.indexed l.list ++ take l.statement-index l.rest)
