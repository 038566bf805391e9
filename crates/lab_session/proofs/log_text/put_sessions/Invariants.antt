use Rattle.std.proofs.Common.{◌≡◌, ◌++◌, drop, map}
use Rattle.lab_printing.proofs.Joined.{followed}
use Rattle.lab_session.specs.LogText.{session_text}
use Rattle.lab_session.proofs.log_text.put_sessions.Given as goal

abbrev pub invariant-loop-session : goal.invariant-loop-session
invariant-loop-session l =
    l.out.items ++ followed (map session_text (drop l.session-index l.rest)) ≡ l.initial.out.items ++ followed (map session_text l.rest)
