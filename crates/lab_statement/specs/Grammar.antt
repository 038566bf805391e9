-- The grammar of a statement: which tokens spell what. Each rule is a constructor.
--
-- Origin: SQL's grammar, cut to this project's profile.
use Rattle.std.specs.Prelude.{◌≡◌, ℕ, suc, ◌≤◌, ℤ, pos, ◌-ℤ◌, List, [], ◌∷◌, ◌++◌, length, Option, Some, None}
use Rattle.lab_table.specs.Predicate.{Predicate}
use Rattle.lab_table.specs.Predicate as predicate
use Rattle.lab_table.specs.declared.statement.Statement.{Statement}
use Rattle.lab_table.specs.declared.statement.StatementKind.{StatementKind}
use Rattle.lab_table.specs.declared.statement.StatementKind.TheVariants as kind
use Rattle.lab_table.specs.declared.predicate.Col.{Col}
use Rattle.lab_table.specs.declared.predicate.Col.TheVariants as col
use Rattle.lab_table.specs.declared.predicate.Cmp.{Cmp}
use Rattle.lab_table.specs.declared.predicate.Cmp.TheVariants as cmp
use Rattle.lab_table.specs.declared.statement.Expr.{Expr}
use Rattle.lab_table.specs.declared.statement.Expr.TheVariants as expr
use Rattle.lab_table.specs.declared.word.Word.TheVariants as word
use Rattle.lab_statement.specs.declared.token.Token.{Token}
use Rattle.lab_statement.specs.declared.token.Token.TheVariants as token
use Rattle.lab_printing.specs.Printed.{printed_statement}
use Rattle.lab_printing.specs.Limits.{max_depth, max_statement_bytes}

-- number := [ '-' ] digits
pub data IsNumber : List Token → ℤ → Type 0 where
  positive : (n : ℕ) → n ≤ 1000000000 → IsNumber (token.Digits n ∷ []) (pos n)
  negative : (n : ℕ) → n ≤ 1000000000 → IsNumber (token.Minus ∷ token.Digits n ∷ []) (pos 0 -ℤ pos n)

-- [ number { ',' number } ]
pub data IsNumberList : List Token → List ℤ → Type 0 where
  none : IsNumberList [] []
  last : {ts : List Token} {z : ℤ} → IsNumber ts z → IsNumberList ts (z ∷ [])
  more : {ts rest : List Token} {y z : ℤ} {zs : List ℤ} → IsNumber ts y → IsNumberList rest (z ∷ zs) → IsNumberList (ts ++ token.Comma ∷ rest) (y ∷ z ∷ zs)

-- col := 'id' | 'value'
abbrev pub col_token : Col → Token
col_token col.Id = token.Word word.Id
col_token col.Value = token.Word word.Value

-- cmp := '=' | '<>' | '<' | '<=' | '>' | '>='
abbrev pub cmp_token : Cmp → Token
cmp_token cmp.Eq = token.Equal
cmp_token cmp.Ne = token.Unequal
cmp_token cmp.Lt = token.Less
cmp_token cmp.Le = token.AtMost
cmp_token cmp.Gt = token.Greater
cmp_token cmp.Ge = token.AtLeast

-- atom := col cmp number | col '%' number '=' number | col 'in' '(' [ number { ',' number } ] ')'
pub data IsAtom : List Token → Predicate → Type 0 where
  compare : {ts : List Token} {z : ℤ} (c : Col) (m : Cmp) → IsNumber ts z → IsAtom (col_token c ∷ cmp_token m ∷ ts) (predicate.Compare c m z)
  one_of : {ts : List Token} {zs : List ℤ} (c : Col) → IsNumberList ts zs → IsAtom (col_token c ∷ token.Word word.In ∷ token.Open ∷ ts ++ token.Close ∷ []) (predicate.OneOf c zs)
  remainder : {ms rs : List Token} {m : ℕ} {r : ℤ} (c : Col) → IsNumber ms (pos m) → 1 ≤ m → m ≤ 1000000 → IsNumber rs r
      → IsAtom (col_token c ∷ token.Percent ∷ ms ++ token.Equal ∷ rs) (predicate.Remainder c m r)

-- The three kinds of predicate: P may have an or at its top, A an and, N neither.
pub data Kind : Type 0 where
  P : Kind
  A : Kind
  N : Kind

-- Predicates under which this many parentheses and nots may still be open.
-- P := A { 'or' A }      A := N { 'and' N }      N := 'not' N | '(' P ')' | atom
pub data IsPred : ℕ → Kind → List Token → Predicate → Type 0 where
  atom : {d : ℕ} {ts : List Token} {p : Predicate} → IsAtom ts p → IsPred d N ts p
  negation : {d : ℕ} {ts : List Token} {p : Predicate} → IsPred d N ts p → IsPred (suc d) N (token.Word word.Not ∷ ts) (predicate.Not p)
  parenthesized : {d : ℕ} {ts : List Token} {p : Predicate} → IsPred d P ts p → IsPred (suc d) N (token.Open ∷ ts ++ token.Close ∷ []) p
  one_factor : {d : ℕ} {ts : List Token} {p : Predicate} → IsPred d N ts p → IsPred d A ts p
  conjunction : {d : ℕ} {ts rest : List Token} {p q : Predicate} → IsPred d A ts p → IsPred d N rest q → IsPred d A (ts ++ token.Word word.And ∷ rest) (predicate.And p q)
  one_member : {d : ℕ} {ts : List Token} {p : Predicate} → IsPred d A ts p → IsPred d P ts p
  disjunction : {d : ℕ} {ts rest : List Token} {p q : Predicate} → IsPred d P ts p → IsPred d A rest q → IsPred d P (ts ++ token.Word word.Or ∷ rest) (predicate.Or p q)

-- [ 'where' P ]
pub data IsWhere : List Token → Option Predicate → Type 0 where
  without : IsWhere [] None
  where_pred : {ts : List Token} {p : Predicate} → IsPred max_depth P ts p → IsWhere (token.Word word.Where ∷ ts) (Some p)

-- E := number | 'value' '+' number | 'value' '-' number
pub data IsExpr : List Token → Expr → Type 0 where
  set : {ts : List Token} {z : ℤ} → IsNumber ts z → IsExpr ts (expr.Set z)
  plus : {ts : List Token} {z : ℤ} → IsNumber ts z → IsExpr (token.Word word.Value ∷ token.Plus ∷ ts) (expr.Plus z)
  minus : {ts : List Token} {z : ℤ} → IsNumber ts z → IsExpr (token.Word word.Value ∷ token.Minus ∷ ts) (expr.Minus z)

-- id := number
pub data IsId : List Token → ℕ → Type 0 where
  named : {ts : List Token} (id : ℕ) → IsNumber ts (pos id) → 1 ≤ id → id ≤ 999999 → IsId ts id

-- '(' id ',' number ')', a row's number and its value
pub data IsRow : List Token → ℕ → ℤ → Type 0 where
  row : {is vs : List Token} {id : ℕ} {value : ℤ} → IsId is id → IsNumber vs value
      → IsRow (token.Open ∷ is ++ token.Comma ∷ vs ++ token.Close ∷ []) id value

-- a statement of this kind on the rows of a table
abbrev pub over : List ℕ → StatementKind → Statement
over table does = record { table = table; kind = does }

-- the four kinds of statement, each with the name of its table
pub data IsStatement : List Token → Statement → Type 0 where
  select : {ts : List Token} {p : Option Predicate} (table : List ℕ) → IsWhere ts p
      → IsStatement (token.Word word.Select ∷ token.Star ∷ token.Word word.From ∷ token.Name table ∷ ts) (over table (kind.Select p))
  update : {es ts : List Token} {e : Expr} {p : Option Predicate} (table : List ℕ) → IsExpr es e → IsWhere ts p
      → IsStatement (token.Word word.Update ∷ token.Name table ∷ token.Word word.Set ∷ token.Word word.Value ∷ token.Equal ∷ es ++ ts) (over table (kind.Update e p))
  insert : {rs : List Token} {id : ℕ} {value : ℤ} (table : List ℕ) → IsRow rs id value
      → IsStatement (token.Word word.Insert ∷ token.Word word.Into ∷ token.Name table ∷ token.Open ∷ token.Word word.Id ∷ token.Comma ∷ token.Word word.Value ∷ token.Close ∷ token.Word word.Values ∷ rs)
      (over table (kind.Insert id value))
  delete : {ts : List Token} {p : Option Predicate} (table : List ℕ) → IsWhere ts p
      → IsStatement (token.Word word.Delete ∷ token.Word word.From ∷ token.Name table ∷ ts) (over table (kind.Delete p))

-- [ ';' ]
pub data IsEnd : List Token → Type 0 where
  open_end : IsEnd []
  semicolon : IsEnd (token.Semicolon ∷ [])

-- one statement [ ';' ] whose printed form keeps its limit
pub record IsWholeStatement (ts : List Token) (s : Statement) : Type 0 where
  pub parts : (front end : List Token) × (ts ≡ front ++ end) × IsStatement front s × IsEnd end
  pub printed : length (printed_statement s) ≤ max_statement_bytes
