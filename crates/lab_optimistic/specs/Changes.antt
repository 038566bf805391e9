-- Which install of a row, in a list with the newest first, changed what statements match.
use Rattle.std.specs.Prelude.{ℕ, Bool, ◌||◌, nat_lt, cond, Option, Some, None, List, [], ◌∷◌}
use Rattle.std.specs.List.{list_any}
use Rattle.std.specs.Option.{option_or}
use Rattle.lab_table.specs.Row.{Row}
use Rattle.lab_table.specs.Table.{State}
use Rattle.lab_table.specs.Statement.{matches}
use Rattle.lab_engine.specs.declared.asker.Asker.{Asker}
use Rattle.lab_engine.specs.declared.row_state.Installed.{Installed}
use Rattle.lab_engine.specs.Situation.{statements_of}

-- whether the asker's transaction has run a statement that matches a row in a state
abbrev pub has_read : Asker → Row → State → Bool
has_read asker row state = list_any (λ s. matches s row state) (statements_of asker.running.now)

-- whether it has run one that matches the row in one of two states
abbrev pub has_read_either : Asker → Row → State → State → Bool
has_read_either asker row old new = has_read asker row old || has_read asker row new

-- the state in which the newest left the row, else that at the start
abbrev pub state_of : State → List Installed → State
state_of start [] = start
state_of start (i ∷ older) = i.version.state

-- who was the first from a place on to install the row where a test of its state before and then passes
abbrev pub first_change : (State → State → Bool) → State → ℕ → List Installed → Option ℕ
first_change test start place [] = None
first_change test start place (i ∷ older) = cond (nat_lt i.place place) None
    (option_or (first_change test start place older) (cond (test (state_of start older) i.version.state) (Some i.by) None))
