-- What an engine stores for all rows.
use Rattle.std.specs.Prelude.{◌≡◌, ℕ, Option, Some, None, List, [], IsSome}
use Rattle.std.specs.BTreeMap.{get}
use Rattle.std.specs.FinMap as map
use Rattle.lab_table.specs.Row.{Row, row_cmp}
use Rattle.lab_table.specs.Table.{Writes}
use Rattle.lab_engine.specs.declared.version.Version.{Version}
use Rattle.lab_engine.specs.declared.row_state.Installed.{Installed}
use Rattle.lab_engine.specs.declared.row_states.RowStates.{RowStates}
use Rattle.lab_engine.specs.Kept.{Kept, pending_of, IsReady}

-- what is kept of a row, if anything
abbrev pub kept_at : RowStates → Row → Option Kept
kept_at states row = get row_cmp states.rows row

-- the rows of which something is kept, with that, by rising row
abbrev pub entries_in : RowStates → List (Row × Kept)
entries_in states = states.rows.entries

-- the chain of what may be kept
abbrev pub chain_kept : Option Kept → List Installed
chain_kept None = []
chain_kept (Some kept) = kept.chain

-- what a session has pending of it
abbrev pub pending_kept : Option Kept → ℕ → Option Version
pending_kept None session = None
pending_kept (Some kept) session = pending_of kept session

-- the installed versions of a row, the newest first
abbrev pub chain_in : RowStates → Row → List Installed
chain_in states row = chain_kept (kept_at states row)

-- the version of a row that a session has pending
abbrev pub pending_in : RowStates → Row → ℕ → Option Version
pending_in states row session = pending_kept (kept_at states row) session

-- the same is installed and pending
pub record IsSame (old new : RowStates) : Type 0 where
  pub chain : (row : Row) → chain_in new row ≡ chain_in old row
  pub pending : (row : Row) (session : ℕ) → pending_in new row session ≡ pending_in old row session

-- there is room for a version of a row by each session
abbrev pub IsReadyAt : RowStates → Row → Type 0
IsReadyAt states row = (kept : Kept) × (kept_at states row ≡ Some kept) × IsReady kept

-- so there is of each row that is written
abbrev pub AreReady : RowStates → Writes → Type 0
AreReady states writes = (row : Row) → IsSome (map.get writes row) → IsReadyAt states row
