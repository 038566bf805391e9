-- The first element with a property, and the least row with one.
use Rattle.std.specs.Prelude.{◌≡◌, Bool, true, cond, Option, Some, None, List, [], ◌∷◌}
use Rattle.std.specs.Ordering.{is_lt}
use Rattle.std.specs.FinMap as map
use Rattle.lab_table.specs.Row.{Row, row_cmp, row_le}

-- what is found is the first, by an order, of those of which something is so; nothing where it is so of none
abbrev pub IsFirstOf : {A : Type 0} → (A → A → Type 0) → (A → Type 0) → Option A → Type 0
IsFirstOf before holds None = (x : _) → holds x → ⊥
IsFirstOf before holds (Some x) = holds x × ((y : _) → holds y → before y x → ⊥)

-- one row is less than another one
abbrev pub IsLess : Row → Row → Type 0
IsLess a b = is_lt (row_cmp a b) ≡ true

-- what is found is the least row of which something is so
abbrev pub IsLeastRow : (Row → Type 0) → Option Row → Type 0
IsLeastRow holds found = IsFirstOf IsLess holds found

-- the row of the first entry that passes a test
abbrev pub first_value : {A : Type 0} → (Row → A → Bool) → List (Row × A) → Option Row
first_value test [] = None
first_value test (e ∷ es) = cond (test e.0 e.1) (Some e.0) (first_value test es)

-- the row of the first entry whose row passes a test
abbrev pub first_entry : {A : Type 0} → (Row → Bool) → List (Row × A) → Option Row
first_entry test es = first_value (λ row _. test row) es

-- the first of some rows that passes a test
abbrev pub first_row : (Row → Bool) → List Row → Option Row
first_row test [] = None
first_row test (row ∷ rows) = cond (test row) (Some row) (first_row test rows)

-- a row has a value in a map that passes a test
abbrev pub HasPassing : {A : Type 0} → (Row → A → Bool) → map.FinMap row_cmp A → Row → Type 0
HasPassing test m row = (value : _) × (map.get m row ≡ Some value) × (test row value ≡ true)

-- the lesser row, where both are there
abbrev pub least : Option Row → Option Row → Option Row
least None b = b
least (Some a) None = Some a
least (Some a) (Some b) = cond (row_le a b) (Some a) (Some b)

-- the least of a row and those that are found at the members of a list
abbrev pub least_of : {A : Type 0} → (A → Option Row) → Option Row → List A → Option Row
least_of find row [] = row
least_of find row (x ∷ xs) = least_of find (least row (find x)) xs
