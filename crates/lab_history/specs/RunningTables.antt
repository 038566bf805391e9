-- The different tables that a history names, collected along its lists and statements; none once there is one too
-- many.
use Rattle.std.specs.Prelude.{ℕ, nat_lt, List, [], ◌∷◌, ◌++◌, length, Option, Some, None, option_and_then, if◌then◌else◌}
use Rattle.std.specs.FinMap as finite
use Rattle.lab_table.specs.Row.{Row}
use Rattle.lab_table.specs.TableSet.{is_among}
use Rattle.lab_history.specs.History.{History}
use Rattle.lab_history.specs.Limits.{max_tables}
use Rattle.lab_history.specs.declared.operation.Op.{Op}
use Rattle.lab_history.specs.declared.transaction.Txn.{Txn}

-- with one more, which is counted once
abbrev pub with_table : List (List ℕ) → List ℕ → Option (List (List ℕ))
with_table met name = if is_among met name then Some met else if nat_lt (length met) max_tables then Some (met ++ name ∷ []) else None

-- with all of a list
abbrev pub tables_within : List (List ℕ) → List (List ℕ) → Option (List (List ℕ))
tables_within met [] = Some met
tables_within met (name ∷ names) = option_and_then (λ more. tables_within more names) (with_table met name)

-- with those of the rows of a list
abbrev pub rows_within : {X : Type 0} → List (List ℕ) → List (Row × X) → Option (List (List ℕ))
rows_within met [] = Some met
rows_within met (e ∷ es) = option_and_then (λ more. rows_within more es) (with_table met e.0.table)

-- with those of an operation
abbrev pub op_within : List (List ℕ) → Op → Option (List (List ℕ))
op_within met op =
    option_and_then (λ most. rows_within most (finite.entries op.writes))
    (option_and_then (λ most. rows_within most (finite.entries op.rows)) (option_and_then (λ more. rows_within more (finite.entries op.view)) (with_table met op.statement.table)))

abbrev pub ops_within : List (List ℕ) → List Op → Option (List (List ℕ))
ops_within met [] = Some met
ops_within met (op ∷ ops) = option_and_then (λ more. ops_within more ops) (op_within met op)

abbrev pub txns_within : List (List ℕ) → List Txn → Option (List (List ℕ))
txns_within met [] = Some met
txns_within met (t ∷ ts) = option_and_then (λ more. txns_within more ts) (ops_within met t.ops)

-- with those of a whole history
abbrev pub all_within : List (List ℕ) → History → Option (List (List ℕ))
all_within met h =
    option_and_then (λ most. rows_within most (finite.entries h.end_table))
    (option_and_then (λ most. rows_within most (finite.entries h.installed)) (option_and_then (λ more. txns_within more h.txns) (rows_within met (finite.entries h.initial))))
