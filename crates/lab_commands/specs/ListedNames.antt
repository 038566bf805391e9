-- The file names in a list, separated by newlines or NULs.
use Rattle.std.specs.Prelude.{ℕ, Bool, true, false, not, List, length, ◌==◌, filter}
use Rattle.std.specs.List.{slice_split}

-- a text is a name where it isn't empty
abbrev pub is_name : List ℕ → Bool
is_name text = not (length text == 0)

-- the names that this byte parts
abbrev pub names_between : ℕ → List ℕ → List (List ℕ)
names_between mark list = filter is_name (slice_split (λ byte. byte == mark) list)

-- the names in a list: parted by NUL, or one a line
abbrev pub names_in : Bool → List ℕ → List (List ℕ)
names_in true list = names_between 0 list
names_in false list = names_between 10 list
