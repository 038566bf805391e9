-- What a page shows of a history: its transactions, what the verdict is about, and the rows involved.
use Rattle.std.specs.Prelude.{ℕ, ◌==◌, nat_le, min, Bool, ◌&&◌, ◌||◌, cond, Option, is_some, List, [], ◌∷◌, ◌++◌, length, take, flat_map}
use Rattle.std.specs.List.{list_any}
use Rattle.lab_table.specs.Row.{Row}
use Rattle.lab_history.specs.History.{History}
use Rattle.lab_history.specs.Version.{ops_of, op_at}
use Rattle.lab_history.specs.declared.transaction.Txn.{Txn}
use Rattle.lab_judge.specs.declared.report.Report.{Report}
use Rattle.lab_drawing.specs.Sketch.{drawing_of}
use Rattle.lab_reports.specs.declared.phenomenon.Phenomenon.{Phenomenon}
use Rattle.lab_evidence.specs.declared.questions.Question.{Question}
use Rattle.lab_evidence.specs.Questions.{questions_of, rows_of}

pub record Scope : Type 0 where
  pub txns : List ℕ
  pub asked : List Question
  pub rows : List Row

-- whether a transaction is among these
abbrev pub is_among : List ℕ → ℕ → Bool
is_among ns n = list_any (λ m. m == n) ns

-- a transaction, if it is another than these
abbrev pub other_txn : List ℕ → Txn → List ℕ
other_txn named t = cond (is_among named t.no) [] (t.no ∷ [])

-- the others of a history, in the file's order
abbrev pub other_txns : List ℕ → List Txn → List ℕ
other_txns named txns = flat_map (other_txn named) txns

-- the transactions that a verdict names: no more than twenty-five
abbrev pub named_txns : List ℕ → List ℕ
named_txns columns = take (min (length columns) 25) columns

-- those of a history of no more than twenty-five
abbrev pub few_others : List ℕ → List Txn → List ℕ
few_others named txns = cond (nat_le (length txns) 25) (other_txns named txns) []

-- the transactions that are shown: those that the verdict names, and all others of a history of no more than twenty-five
abbrev pub shown_txns : List ℕ → List Txn → List ℕ
shown_txns named txns = named ++ few_others named txns

-- what a page shows where these are in question
abbrev pub scope_with : History → List ℕ → List Question → List Row → Scope
scope_with h columns asked rows = record { txns = shown_txns (named_txns columns) h.txns; asked = asked; rows = rows }

-- what the page of a report shows
abbrev pub scope_of : History → Report → Option Phenomenon → Scope
scope_of h report asked =
    scope_with h (drawing_of h report asked).columns (questions_of h report asked) (rows_of report asked (questions_of h report asked))

-- whether a question is at an operation
abbrev pub is_at : ℕ → ℕ → Question → Bool
is_at n k q = (q.spot.txn == n) && (q.spot.op == k)

-- whether an operation is in question
abbrev pub is_asked : List Question → ℕ → ℕ → Bool
is_asked asked n k = list_any (is_at n k) asked

-- whether an operation of a transaction that is shown is: it is one of the first eight, or in question
abbrev pub shows_op : List Question → ℕ → ℕ → Bool
shows_op asked n k = nat_le k 8 || is_asked asked n k

-- whether there is an operation of this number, and it is shown
abbrev pub has_line : History → Scope → ℕ → ℕ → Bool
has_line h s n k = is_some (op_at (ops_of h n) k) && (is_among s.txns n && shows_op s.asked n k)
