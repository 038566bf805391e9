-- The grammar of a line: which tokens spell commands, and which a setup. Each rule is a constructor.
--
-- Origin: SQL's grammar, cut to this project's profile.
use Rattle.std.specs.Prelude.{◌≡◌, ℕ, ◌≤◌, ℤ, true, List, [], ◌∷◌, ◌++◌, length, None}
use Rattle.std.specs.FinMap as finite
use Rattle.std.specs.List.{list_all}
use Rattle.lab_table.specs.declared.statement.Statement.{Statement}
use Rattle.lab_table.specs.declared.statement.Command.{Command}
use Rattle.lab_table.specs.declared.statement.Command.TheVariants as command
use Rattle.lab_table.specs.Row.{Row, row_cmp, in_test, numbered}
use Rattle.lab_table.specs.Table.{Table}
use Rattle.lab_table.specs.declared.word.Word.TheVariants as word
use Rattle.lab_statement.specs.declared.token.Token.{Token}
use Rattle.lab_statement.specs.declared.token.Token.TheVariants as token
use Rattle.lab_printing.specs.Printed.{printed_statement}
use Rattle.lab_script.specs.Printed.{printed_setup}
use Rattle.lab_printing.specs.Limits.{max_line_bytes, max_statement_bytes}
use Rattle.lab_statement.specs.Grammar.{IsEnd, IsRow, IsStatement}
use Rattle.lab_statement.specs.Token.{is_word}

-- stmt, and the commands that it gives
pub data IsCommand : List Token → List Command → Type 0 where
  begin : IsCommand (token.Word word.Begin ∷ []) (command.Begin ∷ [])
  commit : IsCommand (token.Word word.Commit ∷ []) (command.Commit ∷ [])
  abort : IsCommand (token.Word word.Abort ∷ []) (command.Abort ∷ [])
  rollback : IsCommand (token.Word word.Rollback ∷ []) (command.Abort ∷ [])
  level : (t : Token) (ts : List Token) → list_all is_word (t ∷ ts) ≡ true
      → IsCommand (token.Word word.Set ∷ token.Word word.Transaction ∷ token.Word word.Isolation ∷ token.Word word.Level ∷ t ∷ ts) []
  run : {ts : List Token} {s : Statement} → IsStatement ts s → length (printed_statement s) ≤ max_statement_bytes → IsCommand ts (command.Run s ∷ [])

-- line := stmt { ';' stmt } [ ';' ]
pub data IsCommands : List Token → List Command → Type 0 where
  one : {ts : List Token} {cs : List Command} → IsCommand ts cs → IsCommands ts cs
  closed : {ts : List Token} {cs : List Command} → IsCommand ts cs → IsCommands (ts ++ token.Semicolon ∷ []) cs
  more : {ts rest : List Token} {cs ds : List Command} → IsCommand ts cs → IsCommands rest ds → IsCommands (ts ++ token.Semicolon ∷ rest) (cs ++ ds)

-- [ name ] '(' id ',' number ')', a row of a setup and its value: one without a table's name is of `test`
pub data IsNamedRow : List Token → Row → ℤ → Type 0 where
  unnamed : {ts : List Token} {id : ℕ} {value : ℤ} → IsRow ts id value → IsNamedRow ts (in_test id) value
  named : {ts : List Token} {id : ℕ} {value : ℤ} (table : List ℕ) → IsRow ts id value → IsNamedRow (token.Name table ∷ ts) (numbered table id) value

-- row { ',' row }
pub data IsRows : List Token → List (Row × ℤ) → Type 0 where
  last : {ts : List Token} {row : Row} {value : ℤ} → IsNamedRow ts row value → IsRows ts ((row, value) ∷ [])
  more : {ts rest : List Token} {row : Row} {value : ℤ} {rows : List (Row × ℤ)} → IsNamedRow ts row value → IsRows rest rows → IsRows (ts ++ token.Comma ∷ rest) ((row, value) ∷ rows)

-- '(' ')' | row { ',' row }
pub data IsRowList : List Token → List (Row × ℤ) → Type 0 where
  none : IsRowList (token.Open ∷ token.Close ∷ []) []
  some : {ts : List Token} {rows : List (Row × ℤ)} → IsRows ts rows → IsRowList ts rows

-- no row comes twice: none is found among those behind it
abbrev pub AllDistinct : List (Row × ℤ) → Type 0
AllDistinct [] = Unit {0}
AllDistinct (row ∷ rows) = (finite.find row_cmp row.0 rows ≡ None) × AllDistinct rows

-- setup := 'setup' ( '(' ')' | row { ',' row } ) [ ';' ]
pub data IsSetup : List Token → Table → Type 0 where
  setup : {ts end : List Token} {rows : List (Row × ℤ)} → IsRowList ts rows → AllDistinct rows → IsEnd end → length (printed_setup (finite.from_entries rows)) ≤ max_line_bytes
      → IsSetup (token.Word word.Setup ∷ ts ++ end) (finite.from_entries rows)
