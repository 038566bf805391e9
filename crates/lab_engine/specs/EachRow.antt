-- A result for each row that a session sees.
use Rattle.std.specs.Prelude.{ℤ, cond, Option, Some, None, option_map, List, [], ◌∷◌}
use Rattle.std.specs.List.{filter_map}
use Rattle.lab_table.specs.Row.{Row}
use Rattle.lab_table.specs.Table.{State}
use Rattle.lab_table.specs.Statement.{fails}
use Rattle.lab_table.specs.Statement as statement
use Rattle.lab_table.specs.declared.statement.Statement.{Statement}
use Rattle.lab_history.specs.declared.operation.State.{State as Left}
use Rattle.lab_history.specs.declared.operation.State.TheVariants.{Absent, Present}

-- a row with what is made of it, if anything
abbrev pub with_row : {B : Type 0} → Row → Option B → Option (Row × B)
with_row row made = option_map (λ b. (row, b)) made

-- the rows of which something is made, with that
abbrev pub each_row : {A B : Type 0} → (Row → A → Option B) → List (Row × A) → List (Row × B)
each_row f entries = filter_map (λ entry. with_row entry.0 (f entry.0 entry.1)) entries

-- a state as histories have it
abbrev pub stored : State → Left
stored None = Absent
stored (Some value) = Present value

-- the state that a statement gives a row that it lists with this value; nothing where the result is out of range
abbrev pub value_rewritten : Statement → ℤ → Option Left
value_rewritten s old = option_map stored (statement.rewritten s old)

-- the first of some rows, with their values, that keeps a statement from running
abbrev pub first_failing : Statement → List (Row × ℤ) → Option Row
first_failing s [] = None
first_failing s (entry ∷ entries) = cond (fails s entry.0 (Some entry.1)) (Some entry.0) (first_failing s entries)
