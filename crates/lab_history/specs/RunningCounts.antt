-- The rows and entries of a history's lists, counted along the lists.
use Rattle.std.specs.Prelude.{ℕ, ◌+◌, nat_le, List, [], ◌∷◌, length, Bool, Option, Some, None, option_and_then, if◌then◌else◌}
use Rattle.std.specs.BTreeSet.{insert_key}
use Rattle.std.specs.FinMap as finite
use Rattle.lab_table.specs.Row.{Row, row_cmp}
use Rattle.lab_history.specs.History.{History}
use Rattle.lab_history.specs.Limits.{max_ids, max_entries}
use Rattle.lab_history.specs.declared.operation.Op.{Op}
use Rattle.lab_history.specs.declared.transaction.Txn.{Txn}

-- ---- rising lists of different rows

-- with the rows of a list
abbrev pub with_rows : {X : Type 0} → List Row → List (Row × X) → List Row
with_rows seen [] = seen
with_rows seen (e ∷ es) = with_rows (insert_key row_cmp seen e.0) es

-- with those of an operation's lists
abbrev pub with_op : List Row → Op → List Row
with_op seen op = with_rows (with_rows (with_rows seen (finite.entries op.view)) (finite.entries op.rows)) (finite.entries op.writes)

abbrev pub with_ops : List Row → List Op → List Row
with_ops seen [] = seen
with_ops seen (op ∷ ops) = with_ops (with_op seen op) ops

abbrev pub with_txns : List Row → List Txn → List Row
with_txns seen [] = seen
with_txns seen (t ∷ ts) = with_txns (with_ops seen t.ops) ts

-- ---- the same, which stops at the first row past the number that a history may have

-- rows, if they are few
abbrev pub only_if : Bool → List Row → Option (List Row)
only_if few rows = if few then Some rows else None

abbrev pub rows_within : {X : Type 0} → List Row → List (Row × X) → Option (List Row)
rows_within seen [] = Some seen
rows_within seen (e ∷ es) = option_and_then (λ more. rows_within more es) (only_if (nat_le (length (insert_key row_cmp seen e.0)) max_ids) (insert_key row_cmp seen e.0))

abbrev pub op_within : List Row → Op → Option (List Row)
op_within seen op =
    option_and_then (λ more. rows_within more (finite.entries op.writes))
    (option_and_then (λ more. rows_within more (finite.entries op.rows)) (rows_within seen (finite.entries op.view)))

abbrev pub ops_within : List Row → List Op → Option (List Row)
ops_within seen [] = Some seen
ops_within seen (op ∷ ops) = option_and_then (λ more. ops_within more ops) (op_within seen op)

abbrev pub txns_within : List Row → List Txn → Option (List Row)
txns_within seen [] = Some seen
txns_within seen (t ∷ ts) = option_and_then (λ more. txns_within more ts) (ops_within seen t.ops)

-- with the rows of all lists of a history
abbrev pub parts_within : List Row → History → Option (List Row)
parts_within seen h =
    option_and_then (λ more. rows_within more (finite.entries h.end_table))
    (option_and_then (λ more. rows_within more (finite.entries h.installed))
    (option_and_then (λ more. txns_within more h.txns) (rows_within seen (finite.entries h.initial))))

-- ---- counts of entries, none past the limit

-- with those of one list
abbrev pub counted : ℕ → ℕ → Option ℕ
counted total n = if nat_le (total + n) max_entries then Some (total + n) else None

abbrev pub op_counted : ℕ → Op → Option ℕ
op_counted total op =
    option_and_then (λ more. option_and_then (λ most. counted most (length (finite.entries op.writes))) (counted more (length (finite.entries op.rows))))
    (counted total (length (finite.entries op.view)))

abbrev pub ops_counted : ℕ → List Op → Option ℕ
ops_counted total [] = Some total
ops_counted total (op ∷ ops) = option_and_then (λ more. ops_counted more ops) (op_counted total op)

abbrev pub txns_counted : ℕ → List Txn → Option ℕ
txns_counted total [] = Some total
txns_counted total (t ∷ ts) = option_and_then (λ more. txns_counted more ts) (ops_counted total t.ops)
