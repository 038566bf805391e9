use Rattle.lab_engine.proofs.Common.{drop, matching_rows, ◌++◌, ◌≡◌}
use Rattle.lab_engine.proofs.reading.put_matching.Given as goal

-- the rows so far, and then those of the rest that match
abbrev pub invariant-loop-row : goal.invariant-loop-row
invariant-loop-row l = l.found.items ++ matching_rows l.statement (drop l.row-index l.rows) ≡ l.fn.found.items ++ matching_rows l.statement l.rows
