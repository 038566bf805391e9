-- What an operation's box shows: the rows that it listed with how it left them, and the other rows that it wrote.
use Rattle.std.specs.Prelude.{ℕ, ℤ, ◌==◌, Bool, cond, Option, Some, None, is_none, List, [], ◌∷◌, ◌++◌, length, map, filter, codes}
use Rattle.std.specs.Fmt.{decimal}
use Rattle.std.specs.FinMap as finite
use Rattle.lab_table.specs.Row.{Row}
use Rattle.lab_table.specs.Table.{State, Rows, Writes}
use Rattle.lab_printing.specs.Printed.{printed_row}
use Rattle.lab_drawing.specs.Text.{state_text}
use Rattle.lab_history.specs.declared.operation.Op.{Op}

-- how a listed row was left, behind an arrow; nothing where it wasn't written
abbrev pub left_text : Option State → List ℕ
left_text None = []
left_text (Some state) = codes " => " ++ state_text state

-- a row that was listed, and how it was left
abbrev pub listed_row : Writes → Row × ℤ → List ℕ
listed_row writes row = printed_row row.0.id row.1 ++ left_text (finite.get writes row.0)

-- a row that was written and not listed
abbrev pub written_row : Row × State → List ℕ
written_row row = codes "=> (" ++ decimal row.0.id ++ codes ", " ++ state_text row.1 ++ codes ")"

-- texts, the first behind this one and each other behind a comma and a blank
abbrev pub behind : List ℕ → List (List ℕ) → List ℕ
behind lead [] = []
behind lead (text ∷ texts) = lead ++ text ++ behind (codes ", ") texts

-- the rows that an operation listed
abbrev pub listed_text : Op → List ℕ
listed_text op = behind (codes "-> ") (map (listed_row op.writes) (finite.entries op.rows))

-- what stands before the first row that was written and not listed: nothing where none was listed
abbrev pub written_lead : Rows → List ℕ
written_lead rows = cond (length (finite.entries rows) == 0) [] (codes ", ")

-- whether a row that was written wasn't listed
abbrev pub is_unlisted : Rows → Row × State → Bool
is_unlisted rows row = is_none (finite.get rows row.0)

-- the rows that an operation wrote and didn't list
abbrev pub written_text : Op → List ℕ
written_text op = behind (written_lead op.rows) (map written_row (filter (is_unlisted op.rows) (finite.entries op.writes)))

-- a text, or that there was no row
abbrev pub or_none : List ℕ → List ℕ
or_none text = cond (length text == 0) (codes "-> none") text

-- what an operation did: the rows that it listed, each with how it was left, and behind them the others that it wrote
abbrev pub effect_text : Op → List ℕ
effect_text op = or_none (listed_text op ++ written_text op)
