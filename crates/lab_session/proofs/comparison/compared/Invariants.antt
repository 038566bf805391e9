use Rattle.std.{proofs.Common.{ℕ, drop}, specs.Option.{IsSomeAnd}}
use Rattle.lab_table.specs.Sessions.{of_session}
use Rattle.lab_script.specs.Ranges.{SessionInRange}
use Rattle.lab_session.specs.{Seats.{calls_behind, placed_calls}, Compared.{Says}}
use Rattle.lab_session.proofs.comparison.compared.Given as goal

-- each list beside the events so far
abbrev pub invariant-loop-before : goal.invariant-loop-before
invariant-loop-before l = (session : ℕ) → SessionInRange session
    → IsSomeAnd (of_session l.comparisons session) (Says l.seats session (placed_calls session l.log) (calls_behind session l.before (drop l.before l.log)))
