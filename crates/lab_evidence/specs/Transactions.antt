-- The table of transactions: what each statement saw, listed and wrote.
use Rattle.std.specs.Prelude.{ℕ, ◌+◌, ◌==◌, nat_lt, cond, Option, List, [], ◌∷◌, ◌++◌, length, flat_map, codes}
use Rattle.std.specs.Fmt.{decimal}
use Rattle.lab_table.specs.Row.{Row}
use Rattle.lab_printing.specs.Printed.{printed_statement}
use Rattle.lab_history.specs.History.{History}
use Rattle.lab_history.specs.Version.{ops_of, outcome_of}
use Rattle.lab_history.specs.declared.operation.Op.{Op}
use Rattle.lab_history.specs.declared.transaction.Outcome.{Outcome}
use Rattle.lab_drawing.specs.Text.{outcome_name}
use Rattle.lab_drawing.specs.Text.{escaped}
use Rattle.lab_explain.specs.Clauses.{txn_name}
use Rattle.lab_evidence.specs.Cells.{seen_cell, listed_cell, written_cell}
use Rattle.lab_evidence.specs.Markup.{op_name, op_anchor, row_text}
use Rattle.lab_evidence.specs.Phrases.{transactions_caption}
use Rattle.lab_evidence.specs.Scope.{Scope, is_at, shows_op}
use Rattle.lab_evidence.specs.Tags.{cell_open, name_open, saw_open, listed_open, wrote_open, note_open, untold_open, txn_head, line_close, head_close}
use Rattle.lab_evidence.specs.declared.questions.Did.{Did}
use Rattle.lab_evidence.specs.declared.questions.Did.TheVariants.{Saw, Wrote}
use Rattle.lab_evidence.specs.declared.questions.Question.{Question}

-- the class of a question's step
unfoldable pub step_class : ℕ → List ℕ
step_class step = codes " s" ++ decimal step

-- the same, where the question is at an operation
abbrev pub mark_text : ℕ → ℕ → Question → List ℕ
mark_text n k q = cond (is_at n k q) (step_class q.step) []

-- the beginning of an operation's line
unfoldable pub line_open : List Question → ℕ → ℕ → List ℕ
line_open asked n k = codes "<tr id=\"" ++ op_anchor n k ++ codes "\" class=\"o" ++ flat_map (mark_text n k) asked ++ codes "\">"

-- its name
unfoldable pub line_name : ℕ → ℕ → List ℕ
line_name n k = name_open ++ op_name n k ++ codes "</th>"

-- a step; what is of none is in question
abbrev pub step_name : ℕ → List ℕ
step_name step = cond (step == 0) (codes "in question") (codes "step " ++ decimal step)

-- what was done with a row
abbrev pub did_text : Did → List ℕ
did_text Saw = codes "saw row "
did_text Wrote = codes "wrote row "

-- a link to the sentence of a step
unfoldable pub step_link : ℕ → List ℕ
step_link step = codes "<a href=\"#s" ++ decimal step ++ codes "\">" ++ step_name step ++ codes "</a>: "

-- what a question says
unfoldable pub note_text : Question → List ℕ
note_text q = note_open ++ step_link q.step ++ did_text q.did ++ row_text q.row ++ codes "</span>"

-- the same, where the question is at an operation
abbrev pub asked_note : ℕ → ℕ → Question → List ℕ
asked_note n k q = cond (is_at n k q) (note_text q) []

-- the row of a question that is at an operation
abbrev pub row_at : ℕ → ℕ → Question → List Row
row_at n k q = cond (is_at n k q) (q.row ∷ []) []

-- the rows that are in question at an operation
abbrev pub rows_at : List Question → ℕ → ℕ → List Row
rows_at asked n k = flat_map (row_at n k) asked

-- the statement of an operation, and what is asked of it
unfoldable pub statement_cell : List Question → ℕ → ℕ → Op → List ℕ
statement_cell asked n k op = cell_open ++ escaped (printed_statement op.statement) ++ flat_map (asked_note n k) asked ++ codes "</td>"

-- what it saw, listed and wrote
unfoldable pub saw_column : History → Scope → List Row → Op → List ℕ
saw_column h s rows op = saw_open ++ seen_cell h s rows op ++ codes "</td>"

unfoldable pub listed_column : History → Scope → List Row → Op → List ℕ
listed_column h s rows op = listed_open ++ listed_cell h s rows op ++ codes "</td>"

unfoldable pub wrote_column : History → Scope → List Row → Op → List ℕ
wrote_column h s rows op = wrote_open ++ written_cell h s rows op ++ line_close

unfoldable pub columns_text : History → Scope → List Row → Op → List ℕ
columns_text h s rows op = saw_column h s rows op ++ listed_column h s rows op ++ wrote_column h s rows op

-- an operation's line
unfoldable pub line_text : History → Scope → ℕ → ℕ → Op → List ℕ
line_text h s n k op = line_open s.asked n k ++ line_name n k ++ statement_cell s.asked n k op ++ columns_text h s (rows_at s.asked n k) op

-- the same, if it is shown
abbrev pub shown_line : History → Scope → ℕ → ℕ → Op → List ℕ
shown_line h s n k op = cond (shows_op s.asked n k) (line_text h s n k op) []

-- the lines of operations, where so many come before these
abbrev pub lines_text : History → Scope → ℕ → ℕ → List Op → List ℕ
lines_text h s n before [] = []
lines_text h s n before (op ∷ ops) = shown_line h s n (before + 1) op ++ lines_text h s n (before + 1) ops

-- how many statements there are, where not all are shown
unfoldable pub untold_ops : ℕ → List ℕ
untold_ops count = untold_open ++ decimal count ++ codes " statements the first eight are here, and those in question.</td></tr>\n"

abbrev pub ops_count : ℕ → List ℕ
ops_count count = cond (nat_lt 8 count) (untold_ops count) []

-- where a transaction begins
unfoldable pub txn_mark : ℕ → List ℕ
txn_mark n = txn_head ++ decimal n

-- the same, and the beginning of its head
unfoldable pub txn_anchor : ℕ → List ℕ
txn_anchor n = txn_mark n ++ codes "\"><th scope=\"rowgroup\" colspan=\"5\">"

-- the same, and its name
unfoldable pub txn_said : ℕ → List ℕ
txn_said n = txn_anchor n ++ txn_name n ++ codes " "

-- the head of a transaction
unfoldable pub txn_open : ℕ → Option Outcome → List ℕ
txn_open n outcome = txn_said n ++ outcome_name outcome ++ head_close

-- a transaction
unfoldable pub txn_text : History → Scope → ℕ → List ℕ
txn_text h s n = txn_open n (outcome_of h n) ++ lines_text h s n 0 (ops_of h n) ++ ops_count (length (ops_of h n)) ++ codes "</tbody>\n"

-- how many are shown of how many
unfoldable pub shown_text : ℕ → ℕ → List ℕ
shown_text shown all = codes "Here: " ++ decimal shown ++ codes " of " ++ decimal all ++ codes "."

-- the beginning
unfoldable pub transactions_open : List ℕ
transactions_open = codes "<section aria-labelledby=\"transactions\">\n<h2 id=\"transactions\">The transactions</h2>\n<table class=\"s\">\n<caption>"

-- the whole part
unfoldable pub transactions_text : History → Scope → List ℕ
transactions_text h s =
    transactions_open ++ shown_text (length s.txns) (length h.txns) ++ transactions_caption ++ flat_map (txn_text h s) s.txns ++ codes "</table>\n</section>\n"
