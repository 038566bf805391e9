use Rattle.lab_engine.proofs.Common.{each_row, entries, entries_in, laid_over, matching_entries, seen_of, ◌++◌, ◌≡◌}
use Rattle.lab_engine.proofs.reading.all_matching.Given as goal

-- the rows so far and those that match of what is left of both lists are those of the whole
abbrev pub invariant-loop-row : goal.invariant-loop-row
invariant-loop-row l =
    l.found.items ++ matching_entries l.statement (laid_over l.left (each_row (λ row kept. seen_of l.asker.session l.asker.sees_before kept) l.row-iterator))
    ≡ matching_entries l.statement (laid_over (entries l.asker.setup.now) (each_row (λ row kept. seen_of l.asker.session l.asker.sees_before kept) (entries_in l.asker.situation.now.rows)))
