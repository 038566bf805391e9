-- Printed statements: their tokens, which are in the grammar, and that all of them is code.
use Rattle.lab_statement.proofs.Common.{◌≡◌, ◌≤◌, ℕ, true, List, [], ◌∷◌, ◌++◌, Option, Some, None, refl, sym, ◌∙◌, arith, ℤ, codes, append-nil, Predicate, is_table_name, Statement, Expr, Token, over, IsWhere, IsExpr, IsRow, IsStatement, where_depth, kind_depth, statement_depth, StatementPrints, printed_where, printed_expr, printed_row, printed_kind, printed_statement, SpellsStatement, WhereInRange, ExprInRange, RowInRange, ValueInRange, KindInRange, StatementInRange}
use Rattle.lab_table.specs.declared.statement.StatementKind.{StatementKind}
use Rattle.lab_table.specs.declared.statement.StatementKind.TheVariants as kind
use Rattle.lab_table.specs.declared.statement.Expr.TheVariants as expr
use Rattle.lab_table.specs.declared.word.Word.TheVariants as word
use Rattle.lab_statement.specs.declared.token.Token.TheVariants as token
use Rattle.lab_statement.specs.Grammar as grammar
use Rattle.lab_statement.proofs.PrintedText.{Plain, all_plain, dash_plain, append_plain, plain_code, Leads, Reads, Breaks, empty_reads, reads_all, leads_reads, leads_leads, leads_then, cut_leads, reads_then, reads_between, literal}
use Rattle.lab_statement.proofs.PrintedNames.{name_reads}
use Rattle.lab_statement.proofs.PrintedNumbers.{comma_leads, number_tokens, number_reads, number_fits, decimal_reads}
use Rattle.lab_statement.proofs.PrintedTokens.{pred_tokens, pred_fits}
use Rattle.lab_statement.proofs.PrintedPreds.{pred_reads, open_leads, closed_leads}
use Rattle.lab_statement.proofs.Remarks.{code_undashed}
use Rattle.lab_statement.proofs.KnownTokens.{as_spelled}

-- the tokens behind a statement
abbrev pub where_tokens : Option Predicate → List Token
where_tokens None = []
where_tokens (Some p) = token.Word word.Where ∷ pred_tokens p

-- what stands behind a statement breaks a word or a number at its end
where_breaks : (p : Option Predicate) → Breaks (printed_where p)
where_breaks None rest h = h
where_breaks (Some p) rest h = refl

-- what is printed behind a statement has its tokens
where_reads : (p : Option Predicate) → WhereInRange p → Reads (printed_where p) (where_tokens p)
where_reads None h = empty_reads
where_reads (Some p) h = leads_then (literal {text = codes " where "} {ts = token.Word word.Where ∷ []} (λ rest. refl) refl) (pred_reads p h)

-- the tokens behind a statement are in the grammar
where_fits : (p : Option Predicate) → WhereInRange p → where_depth p ≤ 16 → IsWhere (where_tokens p) p
where_fits None h le = grammar.without
where_fits (Some p) h le = grammar.where_pred (pred_fits p h le)

-- the tokens of a printed new value
abbrev pub expr_tokens : Expr → List Token
expr_tokens (expr.Set z) = number_tokens z
expr_tokens (expr.Plus z) = token.Word word.Value ∷ token.Plus ∷ number_tokens z
expr_tokens (expr.Minus z) = token.Word word.Value ∷ token.Minus ∷ number_tokens z

-- a dash before a space begins no remark
minus_plain : Plain (codes "value - ")
minus_plain = append_plain (codes "value ") (codes "- ") (all_plain (codes "value ") refl) (dash_plain 32 [] refl (all_plain (codes " ") refl))

-- a printed new value has its tokens
expr_reads : (e : Expr) → ExprInRange e → Reads (printed_expr e) (expr_tokens e)
expr_reads (expr.Set z) h = number_reads z h
expr_reads (expr.Plus z) h = leads_then (literal {text = codes "value + "} {ts = token.Word word.Value ∷ token.Plus ∷ []} (λ rest. refl) refl) (number_reads z h)
expr_reads (expr.Minus z) h = leads_then {ts = token.Word word.Value ∷ token.Minus ∷ []} (record { is = λ rest. refl; plain = minus_plain }) (number_reads z h)

-- the tokens of a printed new value are in the grammar
expr_fits : (e : Expr) → ExprInRange e → IsExpr (expr_tokens e) e
expr_fits (expr.Set z) h = grammar.set (number_fits z h)
expr_fits (expr.Plus z) h = grammar.plus (number_fits z h)
expr_fits (expr.Minus z) h = grammar.minus (number_fits z h)

-- the tokens of a printed row
abbrev pub row_tokens : ℕ → ℤ → List Token
row_tokens id z = token.Open ∷ token.Digits id ∷ token.Comma ∷ number_tokens z ++ token.Close ∷ []

-- a printed row has its tokens
pub row_leads : (id : ℕ) (z : ℤ) → RowInRange id → ValueInRange z → Leads (printed_row id z) (row_tokens id z)
row_leads id z r h = closed_leads (reads_between (leads_then open_leads (decimal_reads id (omega arith))) comma_leads (λ rest. refl) (number_reads z h))

-- the tokens of a printed row are in the grammar
pub row_fits : (id : ℕ) (z : ℤ) → RowInRange id → ValueInRange z → IsRow (row_tokens id z) id z
row_fits id z r h = grammar.row (grammar.named id (grammar.positive id (omega arith)) r.0 r.1) (number_fits z h)

-- the tokens of a printed statement of this kind
abbrev pub kind_tokens : List ℕ → StatementKind → List Token
kind_tokens table (kind.Select p) = token.Word word.Select ∷ token.Star ∷ token.Word word.From ∷ token.Name table ∷ where_tokens p
kind_tokens table (kind.Update e p) = token.Word word.Update ∷ token.Name table ∷ token.Word word.Set ∷ token.Word word.Value ∷ token.Equal ∷ expr_tokens e ++ where_tokens p
kind_tokens table (kind.Insert id z) =
    token.Word word.Insert ∷ token.Word word.Into ∷ token.Name table ∷ token.Open ∷ token.Word word.Id ∷ token.Comma ∷ token.Word word.Value ∷ token.Close
    ∷ token.Word word.Values ∷ row_tokens id z
kind_tokens table (kind.Delete p) = token.Word word.Delete ∷ token.Word word.From ∷ token.Name table ∷ where_tokens p

-- the tokens of a printed statement
abbrev pub statement_tokens : Statement → List Token
statement_tokens s = kind_tokens s.table s.kind

module _ (table : List ℕ) (named : is_table_name table ≡ true) where
  -- words, and the name of the table behind them
  words_read : {text : List ℕ} {ts : List Token} → Leads text ts → Reads (text ++ table) (ts ++ token.Name table ∷ [])
  words_read words = leads_then words (name_reads table named)

  update_leads : Leads (codes "update " ++ table ++ codes " set value = ") (token.Word word.Update ∷ token.Name table ∷ token.Word word.Set ∷ token.Word word.Value ∷ token.Equal ∷ [])
  update_leads = cut_leads _ (codes " set value = ") _ _ (words_read (literal {text = codes "update "} {ts = token.Word word.Update ∷ []} (λ rest. refl) refl)) (λ rest. refl) (literal (λ rest. refl) refl)

  insert_leads : Leads (codes "insert into " ++ table ++ codes " (id, value) values ")
      (token.Word word.Insert ∷ token.Word word.Into ∷ token.Name table ∷ token.Open ∷ token.Word word.Id ∷ token.Comma ∷ token.Word word.Value ∷ token.Close ∷ token.Word word.Values ∷ [])
  insert_leads =
      cut_leads _ (codes " (id, value) values ") _ (token.Open ∷ token.Word word.Id ∷ token.Comma ∷ token.Word word.Value ∷ token.Close ∷ token.Word word.Values ∷ [])
      (words_read (literal {text = codes "insert into "} {ts = token.Word word.Insert ∷ token.Word word.Into ∷ []} (λ rest. refl) refl)) (λ rest. refl) (literal (λ rest. refl) refl)

  -- a printed statement has its tokens
  kind_reads : (k : StatementKind) → KindInRange k → Reads (printed_kind table k) (kind_tokens table k)
  kind_reads (kind.Select p) h =
      reads_then (words_read (literal {text = codes "select * from "} {ts = token.Word word.Select ∷ token.Star ∷ token.Word word.From ∷ []} (λ rest. refl) refl)) (where_reads p h) (where_breaks p)
  kind_reads (kind.Update e p) h = reads_then (leads_then update_leads (expr_reads e h.0)) (where_reads p h.1) (where_breaks p)
  kind_reads (kind.Insert id z) h = leads_reads _ _ (leads_leads _ (printed_row id z) _ (row_tokens id z) insert_leads (row_leads id z h.0 h.1))
  kind_reads (kind.Delete p) h =
      reads_then (words_read (literal {text = codes "delete from "} {ts = token.Word word.Delete ∷ token.Word word.From ∷ []} (λ rest. refl) refl)) (where_reads p h) (where_breaks p)

  -- the tokens of a printed statement are in the grammar
  kind_fits : (k : StatementKind) → KindInRange k → kind_depth k ≤ 16 → IsStatement (kind_tokens table k) (over table k)
  kind_fits (kind.Select p) h le = grammar.select table (where_fits p h le)
  kind_fits (kind.Update e p) h le = grammar.update table (expr_fits e h.0) (where_fits p h.1 le)
  kind_fits (kind.Insert id z) h le = grammar.insert table (row_fits id z h.0 h.1)
  kind_fits (kind.Delete p) h le = grammar.delete table (where_fits p h le)

-- the same of a statement
pub statement_reads : (s : Statement) → StatementInRange s → Reads (printed_statement s) (statement_tokens s)
statement_reads s h = kind_reads s.table h.0 s.kind h.1

pub statement_fits : (s : Statement) → StatementInRange s → statement_depth s ≤ 16 → IsStatement (statement_tokens s) s
statement_fits s h le = kind_fits s.table h.0 s.kind h.1 le

-- a printed statement spells the statement
pub statement_spells : (s : Statement) → StatementInRange s → StatementPrints s → SpellsStatement (printed_statement s) s
statement_spells s h prints =
    let reads = statement_reads s h in
    let tokens_are = reads_all (printed_statement s) (statement_tokens s) reads ∙ sym (append-nil (statement_tokens s)) in
    record {
      bytes = omega arith;
      ascii = reads.plain.ascii;
      no_remark = code_undashed (printed_statement s) (plain_code (printed_statement s) reads.plain);
      parts = as_spelled (printed_statement s) s (record { parts = (statement_tokens s, [], tokens_are, statement_fits s h prints.shallow, grammar.open_end); printed = prints.short });
      printed = prints.short;
    }
