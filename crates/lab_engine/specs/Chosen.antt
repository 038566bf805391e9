-- Sessions chosen by what their active transactions are doing.
use Rattle.std.specs.Prelude.{◌==◌, ℕ, Bool, false, not, ◌&&◌, Option, Some, None, List}
use Rattle.std.specs.List.{list_any}
use Rattle.lab_engine.specs.declared.session_state.RunningTxn.{RunningTxn}
use Rattle.lab_engine.specs.declared.session_state.SessionState.{SessionState}

-- whether an active transaction, if there is one, passes a test
abbrev pub has_passing : (RunningTxn → Bool) → Option RunningTxn → Bool
has_passing test None = false
has_passing test (Some running) = test running

-- whether a state is another session's, whose active transaction passes a test
abbrev pub is_passing_other : (ℕ → RunningTxn → Bool) → ℕ → SessionState → Bool
is_passing_other test session state = not (state.session == session) && has_passing (test state.session) state.running

-- whether a session is that of one of some such states
abbrev pub is_chosen : (ℕ → RunningTxn → Bool) → ℕ → List SessionState → ℕ → Bool
is_chosen test session states n = list_any (λ state. n == state.session && is_passing_other test session state) states
