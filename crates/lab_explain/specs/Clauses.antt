-- Parts of a sentence: an operation, and the version of a row that it saw or left.
use Rattle.std.specs.Prelude.{ℕ, Option, Some, None, List, [], ◌++◌, codes}
use Rattle.std.specs.Fmt.{decimal, signed_decimal}
use Rattle.lab_table.specs.Row.{Row}
use Rattle.lab_table.specs.Table.{State}
use Rattle.lab_printing.specs.Printed.{printed_row_name, printed_statement}
use Rattle.lab_history.specs.History.{History}
use Rattle.lab_history.specs.Version.{ops_of, op_at, viewed, state_of}
use Rattle.lab_history.specs.declared.operation.Op.{Op}
use Rattle.lab_history.specs.declared.operation.VersionName.{VersionName}
use Rattle.lab_history.specs.declared.operation.VersionName.TheVariants.{Initial, Of}
use Rattle.lab_explain.specs.Phrases.{version_words}

-- a transaction
abbrev pub txn_name : ℕ → List ℕ
txn_name n = codes "T" ++ decimal n

-- an operation's number and its transaction
unfoldable pub op_name : ℕ → ℕ → List ℕ
op_name n k = codes "statement " ++ decimal k ++ codes " of T" ++ decimal n

-- what the operation ran
abbrev pub ran_text : Option Op → List ℕ
ran_text None = codes "which isn't there"
ran_text (Some op) = printed_statement op.statement

-- an operation of a transaction, with what it ran
unfoldable pub op_text : History → ℕ → ℕ → List ℕ
op_text h n k = op_name n k ++ codes " (" ++ ran_text (op_at (ops_of h n) k) ++ codes ")"

-- the name of a row
abbrev pub row_name : Row → List ℕ
row_name row = codes "row " ++ printed_row_name row

-- a row's state, with the blank before it
abbrev pub state_text : State → List ℕ
state_text None = codes " absent"
state_text (Some value) = codes " as " ++ signed_decimal value

-- the version that an operation wrote
abbrev pub version_of : ℕ → ℕ → List ℕ
version_of n k = version_words ++ op_name n k

-- a version of a row
abbrev pub version_text : VersionName → List ℕ
version_text Initial = codes "the initial version"
version_text (Of n k) = version_of n k

-- the state of a version of a row in a history, and the version
unfoldable pub seen_version : History → Row → VersionName → List ℕ
seen_version h row version = state_text (state_of h row version) ++ codes " (" ++ version_text version ++ codes ")"

-- how an operation saw a row: the state of the version that it saw, and the version
abbrev pub seen_text : History → Option Op → Row → List ℕ
seen_text h None row = []
seen_text h (Some op) row = seen_version h row (viewed op row)

-- how a row was seen by the operation of a transaction with this number
abbrev pub seen_by : History → ℕ → ℕ → Row → List ℕ
seen_by h n k row = seen_text h (op_at (ops_of h n) k) row

-- how the operation of a transaction with this number left a row
abbrev pub left_by : History → ℕ → ℕ → Row → List ℕ
left_by h n k row = state_text (state_of h row (Of n k))

-- an operation, and how it saw a row
unfoldable pub saw_text : History → ℕ → ℕ → Row → List ℕ
saw_text h n k row = op_text h n k ++ codes " saw " ++ row_name row ++ seen_by h n k row

-- an operation, how it saw a row, and what is wrong with that
unfoldable pub saw_with : History → ℕ → ℕ → Row → List ℕ → List ℕ
saw_with h n k row flaw = saw_text h n k row ++ flaw

-- an operation, and how it left a row
unfoldable pub left_text : History → ℕ → ℕ → Row → List ℕ
left_text h n k row = op_text h n k ++ codes " left " ++ row_name row ++ left_by h n k row
