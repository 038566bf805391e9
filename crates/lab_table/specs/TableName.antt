-- The names of tables: 1 to 16 lower-case letters and underscores that are no reserved word.
--
-- Origin: SQL's identifiers, cut to this project's profile.
use Rattle.std.specs.Prelude.{ℕ, Bool, not, ◌&&◌, ◌||◌, ◌==◌, nat_le, List, length, map, codes}
use Rattle.std.specs.List.{list_all}
use Rattle.std.specs.Char.{to_ascii_lowercase, is_ascii_lowercase}
use Rattle.std.specs.Cmp.Lexicographic.{slice_cmp, pointwise}
use Rattle.std.specs.Ordering.{nat_cmp}
use Rattle.std.specs.Prelude.{nat_eq}
use Rattle.std.specs.declared.cmp.Ordering.{Ordering}
use Rattle.lab_table.specs.Words.{is_reserved}

-- a letter in lower case or a underscore
abbrev pub is_name_letter : ℕ → Bool
is_name_letter b = is_ascii_lowercase b || b == 95

-- whether a text is 1 to 16 letters in lower case and underscores
abbrev pub has_name_form : List ℕ → Bool
has_name_form text = nat_le 1 (length text) && nat_le (length text) 16 && list_all is_name_letter text

-- whether it is the name of a table: it has this form and is no reserved word
abbrev pub is_table_name : List ℕ → Bool
is_table_name text = has_name_form text && not (is_reserved text)

-- a text in lower case
abbrev pub in_lower_case : List ℕ → List ℕ
in_lower_case text = map to_ascii_lowercase text

-- names in the order of a dictionary: by the first byte in which they differ, and a shorter one before those that it begins
abbrev pub table_name_cmp : List ℕ → List ℕ → Ordering
table_name_cmp = slice_cmp nat_cmp

-- whether two names are the same
abbrev pub table_name_eq : List ℕ → List ℕ → Bool
table_name_eq = pointwise nat_eq

-- the table of rows and statements that name none
abbrev pub test_name : List ℕ
test_name = codes "test"
