-- The rows that a transaction wrote.
use Rattle.std.specs.Prelude.{ℕ, ◌+◌, Bool, not, List, [], ◌∷◌, ◌++◌, map, filter}
use Rattle.std.specs.List.{list_any}
use Rattle.std.specs.FinMap as finite
use Rattle.lab_table.specs.Row.{Row, row_test}
use Rattle.lab_history.specs.History.{History}
use Rattle.lab_history.specs.Version.{ops_of, last_write, is_at}
use Rattle.lab_history.specs.declared.operation.Op.{Op}

-- whether the operation with this number is the last of its transaction that writes a row
abbrev pub is_last : History → ℕ → ℕ → Row → Bool
is_last h n number row = is_at (last_write (ops_of h n) row) number

-- the rows that an operation is the last to write
abbrev pub last_rows : History → ℕ → ℕ → Op → List Row
last_rows h n number op = filter (is_last h n number) (map (λ e. e.0) (finite.entries op.writes))

-- the same of some operations, whose numbers follow so many others
abbrev pub rows_along : History → ℕ → ℕ → List Op → List Row
rows_along h n before [] = []
rows_along h n before (op ∷ ops) = last_rows h n (before + 1) op ++ rows_along h n (before + 1) ops

-- the rows that a transaction wrote, each once
abbrev pub rows_by : History → ℕ → List Row
rows_by h n = rows_along h n 0 (ops_of h n)

-- whether one of these rows isn't this one
abbrev pub is_beside : List Row → Row → Bool
is_beside others row = list_any (λ other. not (row_test row other)) others

-- whether there is one of the first rows, and another one of the second
abbrev pub has_two : List Row → List Row → Bool
has_two ones others = list_any (is_beside others) ones
