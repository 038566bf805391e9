use Rattle.std.proofs.Common.{◌≡◌, ◌++◌, drop, filter, map}
use Rattle.lab_history.specs.VersionName.{new_states}
use Rattle.lab_drawing.specs.Written.{is_last}
use Rattle.lab_drawing.proofs.written.put_last.Given as goal

-- what is found so far, and what is left
abbrev pub invariant-loop-row : goal.invariant-loop-row
invariant-loop-row l =
    l.rows.items ++ filter (is_last l.history l.txn l.number) (map (λ e. e.0) (new_states (drop l.row-index l.written)))
    ≡ l.initial.rows.items ++ filter (is_last l.history l.txn l.number) (map (λ e. e.0) (new_states l.written))
