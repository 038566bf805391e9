-- What several engines print on one topic, side by side: once where all texts are equal, else each different text
-- once, with its engines.
use Rattle.std.specs.Prelude.{◌≡◌, ℕ, ℤ, ◌-◌, ◌==◌, ◌&&◌, Bool, false, cond, Option, Some, None, find, List, [], ◌∷◌, ◌++◌, length, flat_map, codes}
use Rattle.std.specs.Cmp.Lexicographic.{pointwise}
use Rattle.std.specs.List.{list_all}
use Rattle.std.specs.Ordering.{int_eq}
use Rattle.std.specs.Str.{bytes_eq}
use Rattle.lab_table.specs.Row.{Row, row_test}
use Rattle.lab_printing.specs.Printed.{newline}
use Rattle.lab_script.specs.Printed.{named_rows_or}
use Rattle.lab_levels.specs.LevelName.{level_name}
use Rattle.lab_matrix.specs.MatrixText.{spaces}
use Rattle.lab_compare.specs.declared.side.Column.{Column}
use Rattle.lab_compare.specs.declared.side.Column.TheVariants.{Engine, Grade}
use Rattle.lab_compare.specs.declared.side.Side.{Side}
use Rattle.lab_compare.specs.declared.telling.Content.{Content}
use Rattle.lab_compare.specs.declared.telling.Content.TheVariants.{Text, Rows}
use Rattle.lab_compare.specs.declared.telling.Telling.{Telling}

-- ---- what is told

-- whether two lists have the same rows with the same values
abbrev pub same_entries : List (Row × ℤ) → List (Row × ℤ) → Bool
same_entries one other = pointwise (λ a b. row_test a.0 b.0 && int_eq a.1 b.1) one other

-- as it is written
abbrev pub content_text : Content → List ℕ
content_text (Text text) = text
content_text (Rows rows) = named_rows_or (codes "none") rows

-- whether it is the same
abbrev pub same_content : Content → Content → Bool
same_content (Text one) (Text other) = bytes_eq one other
same_content (Text one) (Rows other) = false
same_content (Rows one) (Text other) = false
same_content (Rows one) (Rows other) = same_entries one other

-- whether it is no text at all
abbrev pub is_empty : Content → Bool
is_empty (Text text) = length text == 0
is_empty (Rows rows) = false

-- ---- one engine beside others

-- whether two engines tell the same
abbrev pub alike : Telling → Telling → Bool
alike one other = same_content one.content other.content

-- that they do
abbrev pub TellSame : Telling → Telling → Type 0
TellSame one other = one.content ≡ other.content

-- the first that tells the same as this one
abbrev pub first_alike : Telling → List Telling → Option Telling
first_alike one all = find (alike one) all

-- whether there is a first, and it is the same engine as another one
abbrev pub is_of : Option Telling → Telling → Bool
is_of None one = false
is_of (Some first) one = bytes_eq (level_name first.level) (level_name one.level)

-- the name of another engine behind a blank, where it tells the same as this one
abbrev pub name_if : Telling → Telling → List ℕ
name_if one other = cond (alike one other) (codes " " ++ level_name other.level) []

-- what an engine tells, with the engines that tell the same before it
abbrev pub group_text : List ℕ → List Telling → Telling → List ℕ
group_text mark all one = codes " " ++ flat_map (name_if one) all ++ mark ++ content_text one.content

-- whether an engine is the first that tells what it does
abbrev pub leads : List Telling → Telling → Bool
leads all one = is_of (first_alike one all) one

-- a line with that, where it is the first
abbrev pub led_text : List ℕ → List Telling → Telling → List ℕ
led_text mark all one = cond (leads all one) (group_text mark all one ++ newline) []

-- what is explained of an engine, where something is and it is the first of which that is
abbrev pub explained_text : List Telling → Telling → List ℕ
explained_text all one = cond (is_empty one.content) [] (cond (leads all one) (group_text (codes ":\n") all one) [])

-- ---- all engines

-- a line for each thing that is told, in the order of the first engines that tell it
abbrev pub groups_text : List ℕ → List Telling → List ℕ
groups_text mark all = flat_map (led_text mark all) all

-- whether all others tell the same as this one
abbrev pub all_alike : Telling → List Telling → Bool
all_alike one others = list_all (alike one) others

-- behind what was asked: one text on its line where all are alike, else a line for each
abbrev pub alike_text : List Telling → List ℕ
alike_text [] = newline
alike_text (first ∷ others) =
    cond (all_alike first others) (codes ": " ++ content_text first.content ++ newline) (newline ++ groups_text (codes ": ") (first ∷ others))

-- a line for each thing that is told, where they aren't all alike
abbrev pub differing_text : List ℕ → List Telling → List ℕ
differing_text mark [] = []
differing_text mark (first ∷ others) = cond (all_alike first others) [] (groups_text mark (first ∷ others))

-- what is explained, once for all engines of which that is
abbrev pub explanations_text : List Telling → List ℕ
explanations_text all = flat_map (explained_text all) all

-- ---- columns

-- what stands in a side's column
abbrev pub column_text : Column → Side → List ℕ
column_text Engine side = level_name side.level
column_text Grade side = side.summary.grade

-- texts in columns of twelve, behind one that has so many bytes
abbrev pub columns_behind : Column → ℕ → List Side → List ℕ
columns_behind of used [] = newline
columns_behind of used (side ∷ sides) = spaces (12 - used) ++ column_text of side ++ columns_behind of (length (column_text of side)) sides
