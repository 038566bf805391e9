-- The table cells of an operation: what it saw, listed and wrote.
use Rattle.std.specs.Prelude.{ℕ, ℤ, ◌==◌, nat_le, min, Bool, cond, Option, Some, None, List, [], ◌++◌, length, take, drop, map, flat_map, codes}
use Rattle.std.specs.Fmt.{decimal}
use Rattle.std.specs.FinMap as finite
use Rattle.lab_table.specs.Row.{Row}
use Rattle.lab_table.specs.Table.{State}
use Rattle.lab_history.specs.History.{History}
use Rattle.lab_history.specs.Version.{version_state}
use Rattle.lab_history.specs.VersionName.{state_value}
use Rattle.lab_history.specs.declared.operation.State.{State as Left}
use Rattle.lab_history.specs.declared.operation.Op.{Op}
use Rattle.lab_history.specs.declared.operation.VersionName.{VersionName}
use Rattle.lab_history.specs.declared.operation.VersionName.TheVariants.{Initial, Of}
use Rattle.lab_drawing.specs.Text.{state_text}
use Rattle.lab_drawing.specs.Rows.{is_named}
use Rattle.lab_evidence.specs.Markup.{op_text, row_text}
use Rattle.lab_evidence.specs.Scope.{Scope}
use Rattle.lab_evidence.specs.Tags.{count_open}
use Rattle.lab_evidence.specs.declared.entries.Entry.{Entry}
use Rattle.lab_evidence.specs.declared.entries.Told.{Told}
use Rattle.lab_evidence.specs.declared.entries.Told.TheVariants.{Seen, Held}

-- the versions that an operation saw, the rows that it listed, and those that it wrote, as entries of a cell
abbrev pub seen_entry : Row × VersionName → Entry
seen_entry e = record { row = e.0; told = Seen e.1 }

abbrev pub listed_entry : Row × ℤ → Entry
listed_entry e = record { row = e.0; told = Held (Some e.1) }

abbrev pub written_entry : Row × Option ℤ → Entry
written_entry e = record { row = e.0; told = Held e.1 }

-- the same of a state as a history keeps it
abbrev pub left_entry : Row × Left → Entry
left_entry e = record { row = e.0; told = Held (state_value e.1) }

-- a version's state
abbrev pub known_text : Option State → List ℕ
known_text None = codes "no such version"
known_text (Some state) = state_text state

-- whose version it is
abbrev pub whose_text : History → Scope → VersionName → List ℕ
whose_text h s Initial = codes " at first"
whose_text h s (Of n k) = codes " by " ++ op_text h s n k

-- a version of a row that was seen
unfoldable pub seen_text : History → Scope → Row → VersionName → List ℕ
seen_text h s row version = codes "row " ++ row_text row ++ codes " as " ++ known_text (version_state h row version) ++ whose_text h s version

-- a row and its state
unfoldable pub held_text : Row → State → List ℕ
held_text row state = codes "(" ++ row_text row ++ codes ", " ++ state_text state ++ codes ")"

abbrev pub told_text : History → Scope → Row → Told → List ℕ
told_text h s row (Seen version) = seen_text h s row version
told_text h s row (Held state) = held_text row state

-- the beginning of an entry, by whether it is in question
abbrev pub entry_open : Bool → List ℕ
entry_open bold = cond bold (codes "<span class=\"e b\">") (codes "<span class=\"e\">")

-- an entry, where these rows are in question
unfoldable pub entry_text : History → Scope → List Row → Entry → List ℕ
entry_text h s rows e = entry_open (is_named rows e.row) ++ told_text h s e.row e.told ++ codes "</span>"

-- an entry, if it is in question
abbrev pub asked_entry : History → Scope → List Row → Entry → List ℕ
asked_entry h s rows e = cond (is_named rows e.row) (entry_text h s rows e) []

-- the first entries: eight
abbrev pub first_entries : List Entry → List Entry
first_entries es = take (min (length es) 8) es

-- those behind them
abbrev pub later_entries : List Entry → List Entry
later_entries es = drop (min (length es) 8) es

-- how many entries there are
unfoldable pub count_text : ℕ → List ℕ
count_text count = count_open ++ decimal count

-- the same, where there are more
unfoldable pub more_text : ℕ → List ℕ
more_text count = count_text count ++ codes " in all</span>"

abbrev pub in_all : ℕ → List ℕ
in_all count = cond (nat_le count 8) [] (more_text count)

-- the entries of a cell: the first, those in question, and how many there are
unfoldable pub entries_text : History → Scope → List Row → List Entry → List ℕ
entries_text h s rows es =
    flat_map (entry_text h s rows) (first_entries es) ++ flat_map (asked_entry h s rows) (later_entries es) ++ in_all (length es)

-- a cell, with what stands in one without entries
abbrev pub cell_text : History → Scope → List Row → List ℕ → List Entry → List ℕ
cell_text h s rows empty es = cond (length es == 0) empty (entries_text h s rows es)

-- what an operation saw
abbrev pub seen_cell : History → Scope → List Row → Op → List ℕ
seen_cell h s rows op = cell_text h s rows (codes "all at first") (map seen_entry (finite.entries op.view))

-- what it listed
abbrev pub listed_cell : History → Scope → List Row → Op → List ℕ
listed_cell h s rows op = cell_text h s rows (codes "none") (map listed_entry (finite.entries op.rows))

-- what it wrote
abbrev pub written_cell : History → Scope → List Row → Op → List ℕ
written_cell h s rows op = cell_text h s rows [] (map written_entry (finite.entries op.writes))
