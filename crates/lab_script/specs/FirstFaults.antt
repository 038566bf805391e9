-- Reading the setup, or the commands of a line, from left to right: the value read, or the first fault.
use Rattle.std.specs.Prelude.{ℕ, zero, suc, ℤ, Bool, ◌&&◌, nat_le, length, if◌then◌else◌, List, [], ◌∷◌, ◌++◌, Option, Some, None, option_to_list, ◌-◌, take, drop}
use Rattle.lab_table.specs.Row.{Row, numbered}
use Rattle.lab_table.specs.TableName.{test_name}
use Rattle.lab_table.specs.declared.word.Word.TheVariants as word
use Rattle.lab_statement.specs.declared.token.Token.{Token}
use Rattle.lab_statement.specs.declared.token.Token.TheVariants as token
use Rattle.lab_statement.specs.declared.fault.ScriptFaultKind.{ScriptFaultKind}
use Rattle.lab_statement.specs.declared.fault.ScriptFaultKind.TheVariants.{UnknownStatement, TooLong, DuplicateSetupRow}
use Rattle.lab_statement.specs.Reading.{after}
use Rattle.std.specs.FinMap as map
use Rattle.std.specs.List.{prefix_len}
use Rattle.lab_table.specs.Table.{Table}
use Rattle.lab_table.specs.declared.statement.Command.{Command}
use Rattle.lab_table.specs.declared.statement.Command.TheVariants as command
use Rattle.lab_printing.specs.Limits.{max_line_bytes}
use Rattle.lab_script.specs.Printed.{printed_setup}
use Rattle.lab_statement.specs.Token.{is_word}
use Rattle.lab_statement.specs.Stopping.{Reading, Reads, Stops, ◌>>=◌, if_found, token_read, tokens_read, row_read, name_of}
use Rattle.lab_script.specs.Tables.{with_commands, setup_tables}
use Rattle.lab_script.specs.PassedTables.{with_tokens, with_setup_tokens}
use Rattle.lab_statement.specs.FirstFaults.{behind_tables, end_read, fault_of, fifth_table, is_short, no_rows_at, nothing_read, placed_kind, statement_read}

-- the table of a row of a setup, from the token that it begins with: a word names it, and without one it is `test`
abbrev pub row_table_of : Token → List Token → Reading (List ℕ × List Token)
row_table_of t ts = if is_word t then name_of t ts else Reads (test_name, t ∷ ts)

unfoldable pub row_table_read : List Token → Reading (List ℕ × List Token)
row_table_read [] = Reads (test_name, [])
row_table_read (t ∷ ts) = row_table_of t ts

-- a row of a setup with its value
unfoldable pub named_row_read : List Token → Reading ((Row × ℤ) × List Token)
named_row_read ts = do
  table ← row_table_read ts
  r ← row_read table.1
  Reads ((numbered table.0 r.0.0, r.0.1), r.1)

-- words, at least one
unfoldable pub words_read : List Token → Reading (List Token)
words_read [] = Stops UnknownStatement []
words_read (t ∷ ts) = if is_word t then Reads (drop (prefix_len is_word ts) ts) else Stops UnknownStatement (t ∷ ts)

-- the words that set a level, from behind the first on
unfoldable pub level_read : List Token → Reading (List Token)
level_read ts = do
  rest ← tokens_read (token.Word word.Transaction ∷ token.Word word.Isolation ∷ token.Word word.Level ∷ []) ts
  words_read rest

-- a statement of a line, and its command if it gives one
unfoldable pub command_read : List Token → Reading (Option Command × List Token)
command_read ts = if_found (after (token.Word word.Begin) ts) (λ rest. Reads (Some command.Begin, rest))
    (if_found (after (token.Word word.Commit) ts) (λ rest. Reads (Some command.Commit, rest))
    (if_found (after (token.Word word.Abort) ts) (λ rest. Reads (Some command.Abort, rest))
    (if_found (after (token.Word word.Rollback) ts) (λ rest. Reads (Some command.Abort, rest))
    (if_found (after (token.Word word.Set) ts) (λ rest. do
      behind ← level_read rest
      Reads (None, behind)) (do
        s ← statement_read ts
        Reads (Some (command.Run s.0), s.1))))))

-- commands with that of a statement, if it gives one, and whether that is short
unfoldable pub added_read : List Command → List Token → Reading ((List Command × Bool) × List Token)
added_read cs ts = do
  c ← command_read ts
  Reads ((cs ++ option_to_list c.0, is_short c.0), c.1)

-- commands with that of the next statement, which stops at its end where it is over its limit, or there is no room for it
unfoldable pub step_read : ℕ → List Command → List Token → Reading (List Command × List Token)
step_read room cs ts = do
  c ← added_read cs ts
  rest ← end_read c.1
  if c.0.1 && nat_le (length c.0.0) room then Reads (c.0.0, rest) else Stops TooLong rest

-- items one after another, each behind what was made of those before it, as long as another is to come, at most k of them
unfoldable pub repeated_read : {A : Type 0} → ℕ → (A → List Token → Reading (A × List Token)) → (List Token → Option (List Token)) → A → List Token → Reading (A × List Token)
repeated_read zero item next a ts = Stops UnknownStatement ts
repeated_read (suc k) item next a ts = do
  x ← item a ts
  if_found (next x.1) (λ rest. repeated_read k item next x.0 rest) (Reads x)

-- what is left, if anything is
abbrev pub some_left : List Token → Option (List Token)
some_left [] = None
some_left (t ∷ ts) = Some (t ∷ ts)

-- the commands of a line, for which there is this much room
unfoldable pub commands_read : ℕ → List Token → Reading (List Command)
commands_read room ts = do
  x ← repeated_read (suc (length ts)) (step_read room) some_left [] ts
  Reads x.0

-- a row that is added to a table, and stops at its end where it is present
unfoldable pub row_onto_read : Table → List Token → Reading (Table × List Token)
row_onto_read table ts = do
  row ← named_row_read ts
  if map.contains_key table row.0.0 then Stops DuplicateSetupRow row.1 else Reads (map.insert table row.0.0 row.0.1, row.1)

-- one row or more, with a comma between two of them, that are added to a table one by one
unfoldable pub rows_read : List Token → Reading (Table × List Token)
rows_read ts = repeated_read (suc (length ts)) row_onto_read (after token.Comma) map.empty ts

-- no row, or rows
unfoldable pub table_read : List Token → Reading (Table × List Token)
table_read ts = if_found (no_rows_at ts) (λ rest. Reads (map.empty, rest)) (rows_read ts)

-- a setup of this table that has ended keeps the limit of a line, and nothing is left
abbrev pub setup_ended : Table → List Token → Reading (Unit {0})
setup_ended table ts = if nat_le (length (printed_setup table)) max_line_bytes then nothing_read ts else Stops TooLong ts

-- the end of a setup of this table: a semicolon, or the end of the line
unfoldable pub setup_end_read : Table → List Token → Reading (Unit {0})
setup_end_read table ts = if_found (after token.Semicolon ts) (λ rest. setup_ended table rest) (do
  none ← nothing_read ts
  setup_ended table ts)

-- a setup, all of the line
unfoldable pub setup_read : List Token → Reading Table
setup_read ts = do
  rest ← token_read (token.Word word.Setup) ts
  x ← table_read rest
  end ← setup_end_read x.0 x.1
  Reads x.0

-- the tokens that were read before so many were left
abbrev pub passed : List Token → ℕ → List Token
passed ts left = take (length ts - left) ts

-- the kind of a fault of a line of commands, behind lines that name these tables, where so many of its tokens are left
abbrev pub commands_placed : List (List ℕ) → List Token → ScriptFaultKind → ℕ → ScriptFaultKind
commands_placed names ts kind left = behind_tables (with_tokens names (passed ts left)) (placed_kind ts kind left)

-- the same of a setup, in which no where can stand
abbrev pub setup_placed : List Token → ScriptFaultKind → ℕ → ScriptFaultKind
setup_placed ts kind left = behind_tables (with_setup_tokens [] (passed ts left)) kind

-- the first fault of the tokens of a line of commands, for which there is this much room, behind lines that name these tables
abbrev pub commands_fault : List (List ℕ) → ℕ → List Token → Option ScriptFaultKind
commands_fault names room ts = fault_of (λ cs. fifth_table (with_commands names cs)) (commands_placed names ts) (commands_read room ts)

-- the first fault of the tokens of a setup
abbrev pub setup_fault : List Token → Option ScriptFaultKind
setup_fault ts = fault_of (λ table. fifth_table (setup_tables table)) (setup_placed ts) (setup_read ts)
