use Rattle.lab_engine.proofs.Common.{each_row, if_any, installed_by, ◌++◌, ◌≡◌}
use Rattle.lab_engine.proofs.installs.all_installers.Given as goal

-- the rows so far and those that are left are all
abbrev pub invariant-loop-row : goal.invariant-loop-row
invariant-loop-row l = l.entries.items ++ each_row (λ row kept. if_any (installed_by kept.chain)) l.row-iterator ≡ each_row (λ row kept. if_any (installed_by kept.chain)) l.rows.entries
