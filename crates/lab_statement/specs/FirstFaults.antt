-- Reading a statement from left to right: the statement, or the first fault. An unknown token after a `where` is a
-- bad predicate.
use Rattle.std.specs.Prelude.{◌≡◌, ℕ, ◌-◌, Bool, true, false, nat_le, ◌==◌, length, take, if◌then◌else◌, List, [], ◌∷◌, Option, Some, None, Result, Ok, Err}
use Rattle.lab_table.specs.declared.statement.Command.{Command}
use Rattle.lab_table.specs.declared.statement.Command.TheVariants as command
use Rattle.lab_table.specs.declared.statement.Expr.{Expr}
use Rattle.lab_table.specs.declared.statement.Expr.TheVariants as expr
use Rattle.lab_table.specs.declared.statement.Statement.{Statement}
use Rattle.lab_table.specs.declared.statement.StatementKind.TheVariants as kind
use Rattle.lab_table.specs.declared.word.Word.TheVariants as word
use Rattle.lab_statement.specs.declared.token.Token.{Token}
use Rattle.lab_statement.specs.declared.token.Token.TheVariants as token
use Rattle.lab_statement.specs.declared.fault.ScriptFaultKind.{ScriptFaultKind}
use Rattle.lab_statement.specs.declared.fault.ScriptFaultKind.TheVariants as kinds
use Rattle.lab_statement.specs.declared.fault.ScriptFaultKind.TheVariants.{UnknownStatement, TooLong, TooManyTables}
use Rattle.lab_statement.specs.declared.fault.Refusal.{Refusal}
use Rattle.lab_statement.specs.declared.fault.Refusal.TheVariants as refusal
use Rattle.lab_statement.specs.Grammar.{over}
use Rattle.lab_printing.specs.Limits.{max_statement_bytes}
use Rattle.lab_printing.specs.Printed.{printed_statement}
use Rattle.lab_statement.specs.Reading.{is_token, after}
use Rattle.lab_statement.specs.Stopping.{Reading, Reads, Stops, ◌>>=◌, if_found, token_read, tokens_read, name_read, number_read, row_read, where_read}
use Rattle.lab_table.specs.TableSet.{are_few}

-- the new value of an update
unfoldable pub expr_read : List Token → Reading (Expr × List Token)
expr_read ts = if_found (after (token.Word word.Value) ts) (λ rest. if_found (after token.Plus rest) (λ behind. do
  n ← number_read behind
  Reads (expr.Plus n.0, n.1)) (do
    behind ← token_read token.Minus rest
    n ← number_read behind
    Reads (expr.Minus n.0, n.1))) (do
      n ← number_read ts
      Reads (expr.Set n.0, n.1))

-- a select, from behind its first word on
unfoldable pub select_read : List Token → Reading (Statement × List Token)
select_read ts = do
  rest ← tokens_read (token.Star ∷ token.Word word.From ∷ []) ts
  table ← name_read rest
  p ← where_read table.1
  Reads (over table.0 (kind.Select p.0), p.1)

-- an update, from behind its first word on
unfoldable pub update_read : List Token → Reading (Statement × List Token)
update_read ts = do
  table ← name_read ts
  rest ← tokens_read (token.Word word.Set ∷ token.Word word.Value ∷ token.Equal ∷ []) table.1
  e ← expr_read rest
  p ← where_read e.1
  Reads (over table.0 (kind.Update e.0 p.0), p.1)

-- an insert, from behind its first word on
unfoldable pub insert_read : List Token → Reading (Statement × List Token)
insert_read ts = do
  rest ← token_read (token.Word word.Into) ts
  table ← name_read rest
  behind ← tokens_read (token.Open ∷ token.Word word.Id ∷ token.Comma ∷ token.Word word.Value ∷ token.Close ∷ token.Word word.Values ∷ []) table.1
  r ← row_read behind
  Reads (over table.0 (kind.Insert r.0.0 r.0.1), r.1)

-- a delete, from behind its first word on
unfoldable pub delete_read : List Token → Reading (Statement × List Token)
delete_read ts = do
  rest ← token_read (token.Word word.From) ts
  table ← name_read rest
  p ← where_read table.1
  Reads (over table.0 (kind.Delete p.0), p.1)

-- one of the four kinds of statement
unfoldable pub statement_read : List Token → Reading (Statement × List Token)
statement_read ts = if_found (after (token.Word word.Select) ts) select_read
    (if_found (after (token.Word word.Update) ts) update_read
    (if_found (after (token.Word word.Insert) ts) insert_read (do
      rest ← token_read (token.Word word.Delete) ts
      delete_read rest)))

-- nothing is left
abbrev pub nothing_read : List Token → Reading (Unit {0})
nothing_read ts = if length ts == 0 then Reads tt else Stops UnknownStatement ts

-- the end of a statement: a semicolon, or nothing is left
unfoldable pub end_read : List Token → Reading (List Token)
end_read ts = if_found (after token.Semicolon ts) (λ rest. Reads rest) (do
  none ← nothing_read ts
  Reads ts)

-- the end of this statement: one that is over its limit stops there, and what stands behind it doesn't matter
abbrev pub ended_read : Statement → List Token → Reading Statement
ended_read s ts = do
  rest ← end_read ts
  if nat_le (length (printed_statement s)) max_statement_bytes then (do
    end ← nothing_read rest
    Reads s) else Stops TooLong rest

-- one statement and its end
unfoldable pub whole_statement_read : List Token → Reading Statement
whole_statement_read ts = do
  s ← statement_read ts
  ended_read s.0 s.1

-- whether the printed form of a command is as short as it must be
abbrev pub is_short : Option Command → Bool
is_short (Some (command.Run s)) = nat_le (length (printed_statement s)) max_statement_bytes
is_short c = true

-- the parentheses that stand for no row
unfoldable pub no_rows_at : List Token → Option (List Token)
no_rows_at ts = if_found (after token.Open ts) (λ rest. after token.Close rest) None

-- whether tokens end behind a where with no semicolon since it, where what stands before them does so or not
abbrev pub in_predicate : Bool → List Token → Bool
in_predicate inside [] = inside
in_predicate inside (t ∷ ts) = in_predicate (if is_token t (token.Word word.Where) then true else if is_token t token.Semicolon then false else inside) ts

-- the kind of a fault where so many of a line's tokens are left: behind a where of its statement an unknown one is a bad predicate
abbrev pub placed_kind : List Token → ScriptFaultKind → ℕ → ScriptFaultKind
placed_kind ts kinds.UnknownStatement left = if in_predicate false (take (length ts - left) ts) then kinds.BadPredicate else kinds.UnknownStatement
placed_kind ts kind left = kind

-- why reading stopped, with the kind of its fault made another
abbrev pub refusal_as : (ScriptFaultKind → ScriptFaultKind) → Refusal → Refusal
refusal_as other refusal.NoMemory = refusal.NoMemory
refusal_as other (refusal.Fault kind) = refusal.Fault (other kind)

-- the fault of what is read, if it has one, or else that with which reading stops, as it is where so many tokens are left
abbrev pub fault_of : {X : Type 0} → (X → Option ScriptFaultKind) → (ScriptFaultKind → ℕ → ScriptFaultKind) → Reading X → Option ScriptFaultKind
fault_of of placed (Reads x) = of x
fault_of of placed (Stops kind left) = Some (placed kind (length left))

-- a fifth table, where names of tables are more than a script may have
abbrev pub fifth_table : List (List ℕ) → Option ScriptFaultKind
fifth_table names = if are_few names then None else Some TooManyTables

-- a fault behind these names of tables: where they are more than a script may have, the fifth came first
abbrev pub behind_tables : List (List ℕ) → ScriptFaultKind → ScriptFaultKind
behind_tables names kind = if are_few names then kind else TooManyTables

-- the first fault of the tokens of one statement
abbrev pub statement_fault : List Token → Option ScriptFaultKind
statement_fault ts = fault_of (λ s. None) (placed_kind ts) (whole_statement_read ts)

-- reading stopped for this reason, or memory ran out
abbrev pub StopsFirst : Option ScriptFaultKind → Refusal → Type 0
StopsFirst fault refusal.NoMemory = Unit {0}
StopsFirst fault (refusal.Fault kind) = fault ≡ Some kind

-- what a function returned has this fault, if there is one, unless memory ran out
abbrev pub HasFault : {X : Type 0} → Option ScriptFaultKind → Result X Refusal → Type 0
HasFault fault (Ok x) = fault ≡ None
HasFault fault (Err e) = StopsFirst fault e
