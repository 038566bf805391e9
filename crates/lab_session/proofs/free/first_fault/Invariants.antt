use Rattle.std.{proofs.Common.{◌≡◌, take}, specs.{Prelude.{None}, List.{All}}}
use Rattle.lab_session.proofs.free.first_fault.Given as goal

-- none so far
abbrev pub invariant-loop-one : goal.invariant-loop-one
invariant-loop-one l = All (λ e. e.fault ≡ None) (take l.one-index l.ended)
