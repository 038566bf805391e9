-- The limit of a log.
use Rattle.std.specs.Prelude.{ℕ}

-- the most events of a log
abbrev pub max_events : ℕ
max_events = 100000
