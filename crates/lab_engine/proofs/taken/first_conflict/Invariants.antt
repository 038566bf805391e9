use Rattle.lab_engine.{proofs.Common.{chain_in, first_since, take}, specs.Taken.{IsLeastTaken}}
use Rattle.lab_engine.proofs.taken.first_conflict.Given as goal

-- the least of the rows so far
abbrev pub invariant-loop-row : goal.invariant-loop-row
invariant-loop-row l = IsLeastTaken (λ row. first_since l.before (chain_in l.rows row)) (take l.row-index l.written) l.least
