-- The places of installers.
use Rattle.std.{proofs.Common.{◌≡◌, ℕ, suc, ◌+◌, Bool, true, false, cond, ◌==◌, T, List, [], ◌∷◌, Option, Some, None, refl, sym, ap, ◌∙◌, subst}, specs.{Prelude.{option_map, unwrap_or}, Option.{option_or}, FinMap.{find, is_sorted, Entries.{below_all}}, Ordering.{nat_cmp, is_eq}}}
use Rattle.lab_table.{specs.Row.{Row, row_cmp}, proofs.{Maps.{same_row, find_below}, Tests.{both}}}
use Rattle.lab_history.{specs.{Index.{txn_row_cmp, placed_from, placed}, Keyed.{value_at}, Version.{place_in}}, proofs.{FirstValues.{same_number, other_row, apart_second, same_second_row, or_none, value_at-append}, LastWrites.{counted, uncounted}}}

module _ (row : Row) (n : ℕ) where
  -- the first entry for the row and the transaction
  abbrev first_at : List ((ℕ × Row) × ℕ) → Option ℕ
  first_at ps = value_at txn_row_cmp ps (n, row)

  -- among the row's installers the first with the number is found
  from_own : (place : ℕ) (ns : List ℕ) → first_at (placed_from row place ns) ≡ option_map (λ j. place + j) (place_in ns n)
  from_own place [] = refl
  from_own place (m ∷ ms) =
      ap (λ b. cond b (Some (place + 1)) (first_at (placed_from row (place + 1) ms))) (same_second_row (nat_cmp m n) row ∙ same_number m n)
      ∙ either (from_own (place + 1) ms ∙ counted place (place_in ms n)) (m == n)
    where
      either : first_at (placed_from row (place + 1) ms) ≡ option_map (λ j. place + j) (option_map (λ j. suc j) (place_in ms n))
          → (b : Bool) → cond b (Some (place + 1)) (first_at (placed_from row (place + 1) ms)) ≡ option_map (λ j. place + j) (cond b (Some 1) (option_map (λ j. suc j) (place_in ms n)))
      either rest true = refl
      either rest false = rest

  -- among another row's none is found
  from_other : (other : Row) (place : ℕ) → is_eq (row_cmp other row) ≡ false → (ns : List ℕ) → first_at (placed_from other place ns) ≡ None
  from_other other place apart [] = refl
  from_other other place apart (m ∷ ms) =
      ap (λ b. cond b (Some (place + 1)) (first_at (placed_from other (place + 1) ms))) (apart_second (nat_cmp m n) (row_cmp other row) apart)
      ∙ from_other other (place + 1) apart ms

  -- a transaction's place among a row's installers is found
  pub place_found : (es : List (Row × List ℕ)) → T (is_sorted row_cmp es) → first_at (placed es) ≡ place_in (unwrap_or (find row_cmp row es) []) n
  place_found [] h = refl
  place_found (e ∷ es) h =
      let parts = both (below_all row_cmp e.0 es) (is_sorted row_cmp es) h in
      value_at-append txn_row_cmp (n, row) (placed_from e.0 0 e.1) (placed es) ∙ at parts.0 (place_found es parts.1) (is_eq (row_cmp row e.0)) refl
    where
      at : T (below_all row_cmp e.0 es) → first_at (placed es) ≡ place_in (unwrap_or (find row_cmp row es) []) n
          → (b : Bool) → is_eq (row_cmp row e.0) ≡ b → option_or (first_at (placed_from e.0 0 e.1)) (first_at (placed es)) ≡ place_in (unwrap_or (cond b (Some e.1) (find row_cmp row es)) []) n
      at above rest true own =
          let same : row ≡ e.0 = same_row row e.0 own in
          let none : first_at (placed es) ≡ None = rest ∙ ap (λ o. place_in (unwrap_or o []) n) (find_below row es (subst (λ r. T (below_all row_cmp r es)) (sym same) above)) in
          ap (option_or (first_at (placed_from e.0 0 e.1))) none ∙ or_none (first_at (placed_from e.0 0 e.1))
          ∙ ap (λ r. first_at (placed_from r 0 e.1)) (sym same) ∙ from_own 0 e.1 ∙ uncounted (place_in e.1 n)
      at above rest false apart =
          ap (λ o. option_or o (first_at (placed es))) (from_other e.0 0 (other_row e.0 row ∙ apart) e.1) ∙ rest
