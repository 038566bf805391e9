-- A journal as contracts see it.
use Rattle.std.specs.Prelude.{◌≡◌, ◌≢◌, ℕ, Some, List}
use Rattle.std.specs.Coded.{Coded, coded×, coded_list, coded_ℤ, code_by}
use Rattle.std.specs.FinMap as map
use Rattle.std.proofs.Common.{refl}
use Rattle.lab_table.specs.Row.{coded_row}
use Rattle.lab_table.specs.Table.{Table}
use Rattle.lab_table.specs.declared.statement.Statement.{Statement}
use Rattle.lab_table.specs.declared.statement.Command.TheVariants.{Run}
use Rattle.lab_engine.specs.declared.event.Level.{Level}
use Rattle.lab_engine.specs.declared.event.EngineFault.TheVariants.{Busy}
use Rattle.lab_engine.specs.declared.event.Outcome.TheVariants.{Refused}
use Rattle.lab_engine.specs.declared.event.LogEvent.{LogEvent}
use Rattle.lab_engine.specs.LeastCircle.{NamesLeastOfWaiting}
use Rattle.lab_engine.specs.Log.{past_of, waiting}
use Rattle.lab_engine.specs.Rules.{Permitted}

-- the level and the setup of an engine, and its log, the oldest event first
pub record EngineRun : Type 0 where
  pub level : Level
  pub setup : Table
  pub log : List LogEvent

-- it is stored as its parts, given codes of levels and events
abbrev pub coded_run : Coded Level → Coded LogEvent → Coded EngineRun
coded_run level event = code_by (Level × (Table × List LogEvent)) (coded× level (coded× (map.code coded_row coded_ℤ) (coded_list event)))
    (λ k. (k.level, (k.setup, k.log))) (λ p. record { level = p.0; setup = p.1.0; log = p.1.1 }) (λ _. refl)

-- an event tries anew the statement that a session waits with: the rules permit it, it isn't Busy, and names the least cycle where it names one
pub record IsRetried (level : Level) (run : EngineRun) (session : ℕ) (event : LogEvent) : Type 0 where
  pub of : (s : Statement) × (waiting (past_of run.log) session ≡ Some s) × (event ≡ record { session = session; command = Run s; outcome = event.outcome })
  pub permitted : Permitted level run.setup (past_of run.log) event.session event.command event.outcome
  pub answered : event.outcome ≢ Refused Busy
  pub least : NamesLeastOfWaiting level run.setup (past_of run.log) session event.outcome
