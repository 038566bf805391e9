-- A version of a row that has been in its state from the start.
use Rattle.lab_table.specs.Table.{State}
pub use Rattle.lab_table.specs.Running.{comes_after}
use Rattle.lab_history.specs.declared.operation.VersionName.TheVariants.{Initial}
use Rattle.lab_engine.specs.Log.{Version}

-- a row in this state from the start
abbrev pub initially : State → Version
initially state = record { name = Initial; state = state }
