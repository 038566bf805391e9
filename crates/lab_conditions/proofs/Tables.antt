-- What the conditions of several tables select.
use Rattle.std.proofs.Common.{◌≡◌, ◌<◌, ℕ, zero, suc, ℤ, pos, Bool, true, false, ◌&&◌, ◌||◌, nat_eq, List, [], ◌∷◌, length, get_or, slice_set, refl, sym, ap, ◌∙◌, arith}
use Rattle.std.specs.{List.{list_any}, Ordering.{int_eq}}
use Rattle.lab_table.specs.{Row.{Row, numbered, is_in, rows_tested}, Statement.{kind_selects}, declared.statement.StatementKind.{StatementKind, TheVariants.{Select, Update, Insert, Delete}}}
use Rattle.lab_conditions.specs.{Conditions.{Conditions, any_holds, kind_holds}, Index.{any_selects, table_selects}}
use Rattle.lab_conditions.proofs.Ors.{or_assoc, or_first}

same_number : (a b : ℕ) → nat_eq a b ≡ int_eq (pos a) (pos b)
same_number a b = search (arith)

-- a row matches a statement exactly if it is one of the statement's table and the statement's condition is true of it
pub kind_selects_is : (table : List ℕ) (kind : StatementKind) (row : Row) (value : ℤ) → kind_selects table kind row value ≡ (is_in table row && kind_holds kind row.id value)
kind_selects_is table (Select pred) row value = refl
kind_selects_is table (Update expr pred) row value = refl
kind_selects_is table (Insert id new) row value = sym (rows_tested row (numbered table id)) ∙ ap (λ b. is_in table row && b) (same_number row.id id)
kind_selects_is table (Delete pred) row value = refl

and_or : (a b c : Bool) → (a && (b || c)) ≡ ((a && b) || (a && c))
and_or true b c = refl
and_or false b c = refl

module _ {X : Type 0} (f : X → Bool) (more : Bool) where
  -- one of a list passes more
  pub any_set : (xs : List X) (i : ℕ) (y d : X) → i < length xs → f y ≡ (f (get_or xs i d) || more) → list_any f (slice_set xs i y) ≡ (list_any f xs || more)
  any_set [] i y d within is = absurd (omega (arith, within))
  any_set (x ∷ xs) zero y d within is = ap (λ b. b || list_any f xs) is ∙ or_first (f x) more (list_any f xs)
  any_set (x ∷ xs) (suc i) y d within is = ap (λ b. f x || b) (any_set xs i y d (omega (arith, within)) is) ∙ sym (or_assoc (f x) (list_any f xs) more)

-- the conditions of a table with a statement's
pub table_more : (row : Row) (value : ℤ) (t table : List ℕ) (old new : Conditions) (kind : StatementKind) → t ≡ table
    → ((id : ℕ) (value : ℤ) → any_holds new id value ≡ (any_holds old id value || kind_holds kind id value))
    → table_selects row value (t, new) ≡ (table_selects row value (t, old) || kind_selects table kind row value)
table_more row value t table old new kind is more =
    ap (λ b. is_in t row && b) (more row.id value) ∙ and_or (is_in t row) (any_holds old row.id value) (kind_holds kind row.id value)
    ∙ ap (λ n. table_selects row value (t, old) || (is_in n row && kind_holds kind row.id value)) is
    ∙ ap (λ b. table_selects row value (t, old) || b) (sym (kind_selects_is table kind row value))

-- what the tables select where one of them gets a statement's condition
pub any_more : (row : Row) (value : ℤ) (tables : List (List ℕ × Conditions)) (place : ℕ) (t : List ℕ × Conditions) (new : Conditions) (table : List ℕ) (kind : StatementKind) → place < length tables → t ≡ get_or tables place t → t.0 ≡ table
    → ((id : ℕ) (value : ℤ) → any_holds new id value ≡ (any_holds t.1 id value || kind_holds kind id value))
    → any_selects (slice_set tables place (t.0, new)) row value ≡ (any_selects tables row value || kind_selects table kind row value)
any_more row value tables place t new table kind within is named more =
    any_set (table_selects row value) (kind_selects table kind row value) tables place (t.0, new) t within
    (table_more row value t.0 table t.1 new kind named more ∙ ap (λ x. table_selects row value x || kind_selects table kind row value) is)

-- what a first condition of a table selects
pub first_of_table : (row : Row) (value : ℤ) (table : List ℕ) (old new : Conditions) (kind : StatementKind) → ((id : ℕ) (value : ℤ) → any_holds old id value ≡ false)
    → ((id : ℕ) (value : ℤ) → any_holds new id value ≡ (any_holds old id value || kind_holds kind id value))
    → table_selects row value (table, new) ≡ kind_selects table kind row value
first_of_table row value table old new kind none more =
    ap (λ b. is_in table row && b) (more row.id value ∙ ap (λ b. b || kind_holds kind row.id value) (none row.id value)) ∙ sym (kind_selects_is table kind row value)
