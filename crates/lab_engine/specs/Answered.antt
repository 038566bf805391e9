-- The result of one call of an engine, and the log after it.
use Rattle.std.specs.Prelude.{ℕ, List}
use Rattle.lab_table.specs.Table.{Table}
use Rattle.lab_table.specs.declared.statement.Command.{Command}
use Rattle.lab_engine.specs.declared.event.Level.{Level}
use Rattle.lab_engine.specs.declared.event.Outcome.{Outcome}
use Rattle.lab_engine.specs.declared.event.LogEvent.{LogEvent}
use Rattle.lab_engine.specs.Log.{past_of}
use Rattle.lab_engine.specs.Engine.{IsStep, IsRetry}
use Rattle.lab_engine.specs.LeastCircle.{NamesLeastOf, NamesLeastOfWaiting}

-- a step of a log answers this outcome and leaves the other log
abbrev pub StepsTo : Level → Table → List LogEvent → ℕ → Command → Outcome → List LogEvent → Type 0
StepsTo level setup old session command outcome new = IsStep level setup old new session command outcome × NamesLeastOf level setup (past_of old) session command outcome

-- so does a retry
abbrev pub RetriesTo : Level → Table → List LogEvent → ℕ → Outcome → List LogEvent → Type 0
RetriesTo level setup old session outcome new = IsRetry level setup old new session outcome × NamesLeastOfWaiting level setup (past_of old) session outcome
