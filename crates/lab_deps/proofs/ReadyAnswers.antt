-- Answers that are ready are those that a statement gives.
use Rattle.std.{proofs.{Common.{◌≡◌, ℕ, ℤ, Bool, true, false, ◌&&◌, Some, Option, List, [], map, sym, ap, ◌∙◌, subst}, lemmas.{Bool.{false≢true}, Option.{slice_get-map, same_Some, IfSome_then}}}, specs.Prelude.{is_some, slice_get, option_map, IfSome}}
use Rattle.lab_table.specs.{Row.{Row, is_in, in_own_table}, TableName.{table_name_eq}, Predicate.{Predicate, holds}, Statement.{matches, picks}, declared.statement.Statement.{Statement}}
use Rattle.lab_deps.specs.Asked.{AreAsked}

-- the condition alone decides of a row of the table
pub picked : (table : List ℕ) (p : Predicate) (row : Row) (value : ℤ) → row.table ≡ table → picks table (Some p) row value ≡ holds p row.id value
picked table p row value own =
    let is : is_in table row ≡ true = subst (λ t. table_name_eq t table ≡ true) (sym own) (in_own_table table row.id) in
    ap (λ b. b && holds p row.id value) is

none_there : {A : Type 0} (k : ℕ) (x : A) → slice_get [] k ≡ Some x → ⊥
none_there k x there = false≢true (ap is_some there)

pub none_asked : (s : Statement) → AreAsked s [] [] [] []
none_asked s = record {
  of_values = λ k row value answer own there answered. absurd (none_there k value there);
  of_rows = λ k row other value answer own same there answered. absurd (none_there k (other, value) there);
}

-- what is mapped stands where that stands from which it is
mapped_there : {A : Type 0} (f : A → Bool) (xs : List A) (answers : List Bool) → answers ≡ map f xs → (k : ℕ) (x : A) (answer : Bool) → slice_get xs k ≡ Some x → slice_get answers k ≡ Some answer → f x ≡ answer
mapped_there f xs answers are k x answer there answered =
    same_Some (f x) answer (ap (option_map f) (sym there) ∙ (sym (slice_get-map f xs k) ∙ (ap (λ bs. slice_get bs k) (sym are) ∙ answered)))

module _ (s : Statement) (p : Predicate) (condition : (row : Row) (value : ℤ) → row.table ≡ s.table → matches s row (Some value) ≡ holds p row.id value) where
  pub values_asked : (values : List ℤ) (by_value : List Bool) → ((id : ℕ) → by_value ≡ map (holds p id) values) → AreAsked s values by_value [] []
  values_asked values by_value are = record {
    of_values = λ k row value answer own there answered. condition row value own ∙ mapped_there (holds p row.id) values by_value (are row.id) k value answer there answered;
    of_rows = λ k row other value answer own same there answered. absurd (none_there k (other, value) there);
  }

  pub rows_asked : (rows : List (Row × ℤ)) (by_row : List Bool) → by_row ≡ map (λ e. holds p e.0.id e.1) rows → AreAsked s [] [] rows by_row
  rows_asked rows by_row are = record {
    of_values = λ k row value answer own there answered. absurd (none_there k value there);
    of_rows = λ k row other value answer own same there answered.
        condition row value own ∙ (ap (λ i. holds p i value) (sym same) ∙ mapped_there (λ e. holds p e.0.id e.1) rows by_row are k (other, value) answer there answered);
  }

module _ (s t : Statement) (values : List ℤ) (by_value : List Bool) (rows : List (Row × ℤ)) (by_row : List Bool) (are : AreAsked s values by_value rows by_row) (same : s ≡ t) (row : Row) (value : ℤ) (own : row.table ≡ t.table) where
  of_own : row.table ≡ s.table
  of_own = own ∙ sym (ap (λ (u : Statement). u.table) same)

  pub row_answer : (bs : List Bool) → bs ≡ by_row → (k : ℕ) (found : Option Bool)
      → IfSome found (λ answer. (other : Row) × (slice_get rows k ≡ Some (other, value)) × (other.id ≡ row.id) × (slice_get bs k ≡ Some answer))
      → IfSome found (λ answer. matches t row (Some value) ≡ answer)
  row_answer bs items k found is =
      IfSome_then found is
      (λ answer (other, there, alike, answered). subst (λ (u : Statement). matches u row (Some value) ≡ answer) same
      (are.of_rows k row other value answer of_own alike there (subst (λ xs. slice_get xs k ≡ Some answer) items answered)))

  pub value_answer : (bs : List Bool) → bs ≡ by_value → (k : ℕ) (found : Option Bool)
      → IfSome found (λ answer. (slice_get values k ≡ Some value) × (slice_get bs k ≡ Some answer))
      → IfSome found (λ answer. matches t row (Some value) ≡ answer)
  value_answer bs items k found is =
      IfSome_then found is
      (λ answer (there, answered). subst (λ (u : Statement). matches u row (Some value) ≡ answer) same
      (are.of_values k row value answer of_own there (subst (λ xs. slice_get xs k ≡ Some answer) items answered)))
