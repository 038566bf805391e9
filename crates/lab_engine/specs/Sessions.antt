-- The numbers of sessions.
use Rattle.std.specs.Prelude.{ℕ, ◌==◌, Bool}
use Rattle.std.specs.List.{list_any}
pub use Rattle.lab_table.specs.Sessions.{all_sessions}

-- whether a number is a session's
abbrev pub is_session : ℕ → Bool
is_session n = list_any (λ s. s == n) all_sessions
