use Rattle.std.{proofs.Common.{List}, specs.Option.{IsSomeAnd}}
use Rattle.lab_table.{specs.Sessions.{of_session}, proofs.SessionOrder.{AllUpTo}}
use Rattle.lab_session.specs.{declared.seat.Call.{Call}, Compared.{Says}}
use Rattle.lab_session.proofs.comparison.unwalked.Given as goal

-- those of the sessions so far
abbrev pub invariant-loop-session : goal.invariant-loop-session
invariant-loop-session l = AllUpTo (λ session. (all : List Call) → IsSomeAnd (of_session l.comparisons session) (Says l.seats session all all)) l.session-index
