-- The order of rows, where their tables are the same and where they aren't.
use Rattle.std.{proofs.Common.{◌≡◌, ℕ, true, false, refl, sym, ap, ◌∙◌, rules}, specs.{Prelude.{nat_lt}, Ordering.{nat_cmp, ordering_then, is_eq, is_gt}, Cmp.{Equal-is, Lexicographic.{texts_ties}}, declared.cmp.Ordering.{Ordering, TheVariants.{Less, Equal, Greater}}}}
use Rattle.lab_table.specs.{Row.{Row, row_cmp}, TableName.{table_name_cmp, table_name_eq}}

pub apart_stays : (r other : Ordering) → is_eq r ≡ false → ordering_then r other ≡ r
apart_stays Less other apart = refl
apart_stays Equal other apart = absurd cc
apart_stays Greater other apart = refl

module _ (a b : Row) where
  -- rows of one table are in the order of their numbers
  pub in_one_table : table_name_eq a.table b.table ≡ true → row_cmp a b ≡ nat_cmp a.id b.id
  in_one_table same = ap (λ r. ordering_then r (nat_cmp a.id b.id)) ((Equal-is (table_name_cmp a.table b.table)).0 (sym (texts_ties a.table b.table) ∙ same))

  -- others are in the order of their tables
  pub in_two_tables : table_name_eq a.table b.table ≡ false → row_cmp a b ≡ table_name_cmp a.table b.table
  in_two_tables apart = apart_stays (table_name_cmp a.table b.table) (nat_cmp a.id b.id) (sym (texts_ties a.table b.table) ∙ apart)

-- a number that comes behind another is greater
pub behind_greater : (n m : ℕ) → is_gt (nat_cmp n m) ≡ nat_lt m n
behind_greater n m = search rules
