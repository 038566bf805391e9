-- The text of the matrix.
use Rattle.std.specs.Prelude.{ℕ, ◌-◌, List, [], ◌∷◌, ◌++◌, Option, length, replicate, codes}
use Rattle.std.specs.List.{find}
use Rattle.std.specs.Str.{bytes_eq}
use Rattle.lab_printing.specs.Printed.{newline}
use Rattle.lab_judge.specs.ReportText.{grade_name}
use Rattle.lab_judge.specs.declared.places.Places.{Places}
use Rattle.lab_judge.specs.declared.places.Places.TheVariants as places
use Rattle.lab_judge.specs.declared.report.Report.{Report}
use Rattle.lab_matrix.specs.declared.name.CaseName.{CaseName}
use Rattle.lab_matrix.specs.declared.name.CaseName.TheVariants as name
use Rattle.lab_matrix.specs.declared.cells.Matrix.{Matrix}
use Rattle.lab_matrix.specs.declared.cells.Row.{Row}
use Rattle.lab_matrix.specs.declared.cells.Column.{Column}
use Rattle.lab_matrix.specs.declared.cells.Column.TheVariants as column
use Rattle.lab_matrix.specs.EnginePromise.{promise_name, promise_of}
use Rattle.lab_matrix.specs.Matrix.{level_of}

-- the name of a case
abbrev pub case_name : CaseName → List ℕ
case_name name.G0 = codes "G0"
case_name name.G1a = codes "G1a"
case_name name.G1b = codes "G1b"
case_name name.G1c = codes "G1c"
case_name name.Otv = codes "OTV"
case_name name.Pmp = codes "PMP"
case_name name.P4 = codes "P4"
case_name name.GSingle = codes "G-single"
case_name name.G2Item = codes "G2-item"
case_name name.G2 = codes "G2"

-- all cases, in the order in which they are printed
abbrev pub all_cases : List CaseName
all_cases = name.G0 ∷ name.G1a ∷ name.G1b ∷ name.G1c ∷ name.Otv ∷ name.Pmp ∷ name.P4 ∷ name.GSingle ∷ name.G2Item ∷ name.G2 ∷ []

-- the first of some cases that has this name
abbrev pub first_named : List ℕ → List CaseName → Option CaseName
first_named given among = find (λ case. bytes_eq (case_name case) given) among

-- the case of a name, if there is one
abbrev pub case_named : List ℕ → Option CaseName
case_named given = first_named given all_cases

-- so many spaces
abbrev pub spaces : ℕ → List ℕ
spaces count = replicate count 32

-- a text with spaces behind it, up to a width
abbrev pub padded : ℕ → List ℕ → List ℕ
padded width text = text ++ spaces (width - length text)

-- SI, with the space before it, where a history is a snapshot run
abbrev pub snapshot_mark : Places → List ℕ
snapshot_mark (places.Yes spans) = codes " SI"
snapshot_mark (places.NoFault fault) = []
snapshot_mark (places.NoCycle points) = []

-- a cell: the level that the history meets, and whether it is a snapshot run
abbrev pub cell_text : Report → List ℕ
cell_text report = grade_name report.level ++ snapshot_mark report.snapshot

-- a line: the case, and its cell on each engine
abbrev pub row_line : CaseName → Row → List ℕ
row_line case row = padded 10 (case_name case) ++ padded 12 (cell_text row.locking) ++ padded 12 (cell_text row.committed) ++ cell_text row.snapshot ++ newline

-- the line of the columns
abbrev pub heading : List ℕ
heading = codes "case      locking     committed   snapshot" ++ newline

-- what the engine of a column promises of every run
abbrev pub promised_in : Column → List ℕ
promised_in column = promise_name (promise_of (level_of column))

-- the last line: what each engine promises
abbrev pub promised_line : List ℕ
promised_line =
    padded 10 (codes "promised") ++ padded 12 (promised_in column.Locking) ++ padded 12 (promised_in column.Committed) ++ promised_in column.Snapshot ++ newline

-- the matrix: the line of the columns, a line for each case, and the line of what is promised
abbrev pub matrix_text : Matrix → List ℕ
matrix_text m =
    heading ++ row_line name.G0 m.g0 ++ row_line name.G1a m.g1a ++ row_line name.G1b m.g1b ++ row_line name.G1c m.g1c ++ row_line name.Otv m.otv
    ++ row_line name.Pmp m.pmp ++ row_line name.P4 m.p4 ++ row_line name.GSingle m.g_single ++ row_line name.G2Item m.g2_item ++ row_line name.G2 m.g2 ++ promised_line
