-- Links and bold words of a page.
--
-- Origin: HTML.
use Rattle.std.specs.Prelude.{ℕ, Bool, cond, List, [], ◌++◌, codes}
use Rattle.std.specs.Fmt.{decimal}
use Rattle.lab_table.specs.Row.{Row}
use Rattle.lab_printing.specs.Printed.{printed_row_name}
use Rattle.lab_history.specs.History.{History}
use Rattle.lab_drawing.specs.Text.{escaped}
use Rattle.lab_explain.specs.Clauses.{txn_name}
use Rattle.lab_evidence.specs.Scope.{Scope, has_line}

-- the name of an operation, as T2.1
unfoldable pub op_name : ℕ → ℕ → List ℕ
op_name n k = txn_name n ++ codes "." ++ decimal k

-- the name of its line in the page, as t2-1
unfoldable pub op_anchor : ℕ → ℕ → List ℕ
op_anchor n k = codes "t" ++ decimal n ++ codes "-" ++ decimal k

-- a link to that line
unfoldable pub op_link : ℕ → ℕ → List ℕ
op_link n k = codes "<a href=\"#" ++ op_anchor n k ++ codes "\">" ++ op_name n k ++ codes "</a>"

-- an operation: a link where its line is in the page
abbrev pub op_text : History → Scope → ℕ → ℕ → List ℕ
op_text h s n k = cond (has_line h s n k) (op_link n k) (op_name n k)

-- the name of a row
abbrev pub row_text : Row → List ℕ
row_text row = escaped (printed_row_name row)

-- the beginning of bold letters
abbrev pub bold_open : Bool → List ℕ
bold_open bold = cond bold (codes "<b>") []

-- their end
abbrev pub bold_close : Bool → List ℕ
bold_close bold = cond bold (codes "</b>") []
