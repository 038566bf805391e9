-- The transactions that have read what a statement would write.
use Rattle.std.specs.Prelude.{ℕ, Bool, not, ◌==◌, ◌||◌, ◌&&◌, Some, length}
use Rattle.std.specs.List.{list_any}
use Rattle.std.specs.Option.{is_none}
use Rattle.std.specs.FinMap as map
use Rattle.lab_table.specs.Row.{Row}
use Rattle.lab_table.specs.Table.{State}
use Rattle.lab_table.specs.Statement.{matches, would_write, new_state}
use Rattle.lab_table.specs.declared.statement.Statement.{Statement}
use Rattle.lab_engine.specs.declared.asker.Asker.{Asker}
use Rattle.lab_engine.specs.declared.session_state.RunningTxn.{RunningTxn}
use Rattle.lab_engine.specs.Asker.{seen_in}
use Rattle.lab_engine.specs.Chosen.{is_chosen}
use Rattle.lab_engine.specs.KeptRows.{entries_in, kept_at}
use Rattle.lab_engine.specs.SessionBits.{has}
use Rattle.lab_engine.specs.Situation.{statements_of}

-- whether an active transaction has run a statement that matches a row in one of two states
abbrev pub has_read_either : Row → State → State → RunningTxn → Bool
has_read_either row old new running = list_any (λ s. matches s row old) (statements_of running) || list_any (λ s. matches s row new) (statements_of running)

-- whether another session's transaction has
abbrev pub is_reader : Asker → Row → State → State → ℕ → Bool
is_reader asker row old new n = is_chosen (λ _ running. has_read_either row old new running) asker.session asker.situation.now.sessions n

-- whether an active transaction has run a statement
abbrev pub has_run : RunningTxn → Bool
has_run running = not (length (statements_of running) == 0)

-- whether a session isn't in a set, and is another one whose transaction has
abbrev pub is_other_runner : Asker → ℕ → ℕ → Bool
is_other_runner asker known n = is_chosen (λ other running. not (has known other) && has_run running) asker.session asker.situation.now.sessions n

-- whether a statement would write a row that it sees in this state, and a session has read it before or after that
abbrev pub reads_seen : Asker → Statement → ℕ → Row → State → Bool
reads_seen asker s n row old = would_write s row old && is_reader asker row old (new_state s row old) n

-- the same of a row as the asker's transaction sees it
abbrev pub reads_row : Asker → Statement → ℕ → Row → Bool
reads_row asker s n row = reads_seen asker s n row (seen_in asker row).state

-- the same of a row that the setup has and that no transaction has written
abbrev pub reads_of_untouched : Asker → Statement → ℕ → Bool
reads_of_untouched asker s n = list_any (λ entry. is_none (kept_at asker.situation.now.rows entry.0) && reads_seen asker s n entry.0 (Some entry.1)) (map.entries asker.setup.now)

-- the same of a row that a transaction has written
abbrev pub reads_of_written : Asker → Statement → ℕ → Bool
reads_of_written asker s n = list_any (λ entry. reads_row asker s n entry.0) (entries_in asker.situation.now.rows)
