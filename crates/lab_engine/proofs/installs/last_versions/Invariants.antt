use Rattle.lab_engine.proofs.Common.{each_row, last_before, ◌++◌, ◌≡◌}
use Rattle.lab_engine.proofs.installs.last_versions.Given as goal

-- the rows so far and those that are left are all
abbrev pub invariant-loop-row : goal.invariant-loop-row
invariant-loop-row l = l.versions.items ++ each_row (λ row kept. last_before l.place kept.chain) l.row-iterator ≡ each_row (λ row kept. last_before l.place kept.chain) l.rows.entries
