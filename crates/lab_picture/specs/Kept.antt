-- What a box shows where it shows only the rows that arrows name: two dots stand for each run of other rows.
use Rattle.std.specs.Prelude.{ℕ, ℤ, ◌==◌, Bool, ◌||◌, cond, List, [], ◌∷◌, ◌++◌, length, map, filter, codes}
use Rattle.std.specs.List.{list_any}
use Rattle.std.specs.FinMap as finite
use Rattle.lab_table.specs.Row.{Row}
use Rattle.lab_table.specs.Table.{State, Rows, Writes}
use Rattle.lab_history.specs.declared.operation.Op.{Op}
use Rattle.lab_picture.specs.declared.kept.Behind.{Behind}
use Rattle.lab_picture.specs.declared.kept.Behind.TheVariants.{Nothing, Shown, LeftOut}
use Rattle.lab_picture.specs.Effect.{listed_row, written_row, is_unlisted}
use Rattle.lab_drawing.specs.Rows.{is_named}

-- a row that was listed, with what is told of it
abbrev pub told_listed : Writes → Row × ℤ → Row × List ℕ
told_listed writes row = (row.0, listed_row writes row)

-- a row that was written and not listed, with what is told of it
abbrev pub told_written : Row × State → Row × List ℕ
told_written row = (row.0, written_row row)

-- the rows that an operation listed, with what is told of each
abbrev pub listed_rows : Op → List (Row × List ℕ)
listed_rows op = map (told_listed op.writes) (finite.entries op.rows)

-- the others that it wrote
abbrev pub written_rows : Op → List (Row × List ℕ)
written_rows op = map told_written (filter (is_unlisted op.rows) (finite.entries op.writes))

-- the rows that an operation tells of, with what is told of each
abbrev pub told_rows : Op → List (Row × List ℕ)
told_rows op = listed_rows op ++ written_rows op

-- whether an operation lists a row that is named
abbrev pub lists_named : List Row → Rows → Bool
lists_named named rows = list_any (λ row. is_named named row.0) (finite.entries rows)

-- whether it writes one
abbrev pub writes_named : List Row → Writes → Bool
writes_named named writes = list_any (λ row. is_named named row.0) (finite.entries writes)

-- whether it tells of one
abbrev pub tells_named : List Row → Op → Bool
tells_named named op = lists_named named op.rows || writes_named named op.writes

-- what stands between a row and what is before it
abbrev pub before_row : Behind → List ℕ
before_row Nothing = []
before_row Shown = codes ", "
before_row LeftOut = codes " "

-- what stands for a row that is left out: nothing where the one before it is too
abbrev pub before_dots : Behind → List ℕ
before_dots Nothing = codes ".."
before_dots Shown = codes " .."
before_dots LeftOut = []

-- what a row leaves before the next one
abbrev pub next_behind : List Row → Row → Behind
next_behind named row = cond (is_named named row) Shown LeftOut

-- a row that is named; of one that isn't, what stands for it
abbrev pub kept_row : List Row → Behind → Row × List ℕ → List ℕ
kept_row named behind told = cond (is_named named told.0) (before_row behind ++ told.1) (before_dots behind)

-- the rows that are named, and two dots for each run of others
abbrev pub kept_from : List Row → Behind → List (Row × List ℕ) → List ℕ
kept_from named behind [] = []
kept_from named behind (told ∷ rest) = kept_row named behind told ++ kept_from named (next_behind named told.0) rest

-- what rows leave before the next one
abbrev pub behind_all : List Row → Behind → List (Row × List ℕ) → Behind
behind_all named behind [] = behind
behind_all named behind (told ∷ rest) = behind_all named (next_behind named told.0) rest

-- what stands before the first row
abbrev pub kept_lead : Rows → List ℕ
kept_lead rows = cond (length (finite.entries rows) == 0) [] (codes "-> ")

-- what an operation did with the rows that are named
abbrev pub kept_text : List Row → Op → List ℕ
kept_text named op =
    kept_lead op.rows ++ kept_from named Nothing (listed_rows op)
    ++ kept_from named (behind_all named Nothing (listed_rows op)) (written_rows op)
