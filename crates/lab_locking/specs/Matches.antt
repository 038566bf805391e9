-- The transactions whose pending writes match a statement.
use Rattle.std.specs.Prelude.{ℕ, Bool, false, ◌||◌, Option, Some, None, unwrap_or, List}
use Rattle.lab_table.specs.Row.{Row}
use Rattle.lab_table.specs.Table.{State}
use Rattle.lab_table.specs.Statement.{matches}
use Rattle.lab_table.specs.declared.statement.Statement.{Statement}
use Rattle.lab_engine.specs.declared.asker.Asker.{Asker}
use Rattle.lab_engine.specs.declared.row_state.Installed.{Installed}
use Rattle.lab_engine.specs.Chains.{last_before}
use Rattle.lab_engine.specs.Kept.{Kept, pending_of}
use Rattle.lab_engine.specs.KeptRows.{kept_at}
use Rattle.lab_engine.specs.Log.{Version, initial_version}

-- the committed state of a row of this chain: as last installed, else as the setup has it
abbrev pub committed_state : Asker → Row → List Installed → State
committed_state asker row chain = (unwrap_or (last_before asker.situation.now.events chain) (initial_version asker.setup.now row)).state

-- whether there is a pending version, and a statement matches the row's committed or pending state
abbrev pub matches_either : Statement → Row → State → Option Version → Bool
matches_either s row committed None = false
matches_either s row committed (Some version) = matches s row committed || matches s row version.state

-- whether a session has one of a row of which this is kept
abbrev pub matches_kept : Asker → Statement → Row → Option Kept → ℕ → Bool
matches_kept asker s row None holder = false
matches_kept asker s row (Some kept) holder = matches_either s row (committed_state asker row kept.chain) (pending_of kept holder)

-- whether it has one of a row
abbrev pub matches_at : Asker → Statement → ℕ → Row → Bool
matches_at asker s holder row = matches_kept asker s row (kept_at asker.situation.now.rows row) holder
