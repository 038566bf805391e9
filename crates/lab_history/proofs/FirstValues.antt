-- Laws of the first value that a list gives a key.
use Rattle.std.proofs.{Common.{◌≡◌, ℕ, true, false, cond, ◌==◌, T, subst, List, [], ◌∷◌, ◌++◌, Option, Some, None, refl, sym, ap, ◌∙◌}, lemmas.List.{reverse-append}}
use Rattle.std.specs.{Prelude.{reverse}, Option.{option_or}, Cmp.{unsigned_ties, tied_itself, nat_cmp_total}, Ordering.{nat_cmp, is_eq, ordering_then}, declared.cmp.Ordering.{Ordering, TheVariants.{Less, Equal, Greater}}}
use Rattle.lab_table.{specs.Row.{Row, row_cmp, rows_total}, proofs.Orderings.{eq_reversed}}
use Rattle.lab_history.specs.Keyed.{value_at}

-- numbers compare alike where they are equal
pub same_number : (m n : ℕ) → is_eq (nat_cmp m n) ≡ (m == n)
same_number m n = sym (unsigned_ties m n)

-- rows that don't compare alike don't from the other side
pub other_row : (a b : Row) → is_eq (row_cmp a b) ≡ is_eq (row_cmp b a)
other_row a b = ap is_eq (rows_total.antisymm a b) ∙ eq_reversed (row_cmp b a)

-- pairs with different first parts differ
pub apart_first : (a b : Ordering) → is_eq a ≡ false → is_eq (ordering_then a b) ≡ false
apart_first Less b h = refl
apart_first Equal b h = absurd (subst T h tt)
apart_first Greater b h = refl

-- pairs with one number first are told apart by their seconds
pub same_first : (n : ℕ) (b : Ordering) → is_eq (ordering_then (nat_cmp n n) b) ≡ is_eq b
same_first n b = ap (λ r. is_eq (ordering_then r b)) (tied_itself nat_cmp_total n)

-- pairs with different second parts differ
pub apart_second : (a b : Ordering) → is_eq b ≡ false → is_eq (ordering_then a b) ≡ false
apart_second Less b h = refl
apart_second Equal b h = h
apart_second Greater b h = refl

-- pairs with one row second are told apart by their firsts
pub same_second_row : (a : Ordering) (row : Row) → is_eq (ordering_then a (row_cmp row row)) ≡ is_eq a
same_second_row a row = ap (λ r. is_eq (ordering_then a r)) (tied_itself rows_total row) ∙ first_left a
  where
    first_left : (a : Ordering) → is_eq (ordering_then a Equal) ≡ is_eq a
    first_left Less = refl
    first_left Equal = refl
    first_left Greater = refl

-- nothing comes second
pub or_none : {A : Type 0} (x : Option A) → option_or x None ≡ x
or_none None = refl
or_none (Some x) = refl

module _ {K V : Type 0} (cmp : K → K → Ordering) (key : K) where
  -- what the front doesn't have is found behind it
  pub value_at-append : (xs ys : List (K × V)) → value_at cmp (xs ++ ys) key ≡ option_or (value_at cmp xs key) (value_at cmp ys key)
  value_at-append [] ys = refl
  value_at-append (x ∷ xs) ys = elim (is_eq (cmp x.0 key)) as (λ t. cond t (Some x.1) (value_at cmp (xs ++ ys) key) ≡ option_or (cond t (Some x.1) (value_at cmp xs key)) (value_at cmp ys key)) [
    | true ↦ refl
    | false ↦ value_at-append xs ys
  ]

  -- backwards, what the back doesn't have is found before it
  pub value_at-reverse : (xs ys : List (K × V)) → value_at cmp (reverse (xs ++ ys)) key ≡ option_or (value_at cmp (reverse ys) key) (value_at cmp (reverse xs) key)
  value_at-reverse xs ys = ap (λ zs. value_at cmp zs key) (reverse-append xs ys) ∙ value_at-append (reverse ys) (reverse xs)
