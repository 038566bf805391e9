-- Tests of the rows that have installers.
use Rattle.std.{proofs.{Common.{◌≡◌, ℕ, Bool, true, false, cond, Some, None, List, [], ◌∷◌, refl, sym, ap, ◌∙◌}, lemmas.{Bool.{or_left, or_right}, Option.{none-some}, List.Folds.{Any-from_list_any}}}, specs.{Prelude.{unwrap_or}, List.{list_any}}}
use Rattle.std.specs.FinMap.{find, get, entries, get-entries}
use Rattle.lab_table.{specs.Row.{Row, row_cmp, row_eq}, proofs.Maps.{same_row}}
use Rattle.lab_history.specs.{History.{History}, Version.{installers, place_in}}

-- a row that is found among entries passes a test among theirs
any_found : {A : Type 0} (test : Row → Bool) (es : List (Row × A)) (row : Row) (x : A) → find row_cmp row es ≡ Some x → test row ≡ true → list_any (λ (e : Row × A). test e.0) es ≡ true
any_found test [] row x found is = absurd (none-some x found)
any_found {A} test (d ∷ es) row x found is =
    elim (row_eq row d.0) as (λ b. row_eq row d.0 ≡ b → cond b (Some d.1) (find row_cmp row es) ≡ Some x → list_any (λ (e : Row × A). test e.0) (d ∷ es) ≡ true) [
      | true ↦ λ same _. or_left (test d.0) (list_any (λ (e : Row × A). test e.0) es) (ap test (sym (same_row row d.0 same)) ∙ is)
      | false ↦ λ _ rest. or_right (test d.0) (list_any (λ (e : Row × A). test e.0) es) (any_found test es row x rest is)
    ] refl found

module _ (h : History) (test : Row → Bool) where
  -- a row at which a transaction has a place is among those of the history
  pub any_row : (row : Row) (n p : ℕ) → place_in (installers h row) n ≡ Some p → test row ≡ true → list_any (λ (e : Row × List ℕ). test e.0) (entries h.installed) ≡ true
  any_row row n p placed is =
      elim (get h.installed row) as (λ o. get h.installed row ≡ o → place_in (unwrap_or o []) n ≡ Some p → list_any (λ (e : Row × List ℕ). test e.0) (entries h.installed) ≡ true) [
        | None ↦ λ _ none. absurd (none-some p none)
        | Some ns ↦ λ found _. any_found test (entries h.installed) row ns (sym (get-entries h.installed row) ∙ found) is
      ] refl placed

  -- and the rows of a history that pass are rows
  pub row_any : list_any (λ (e : Row × List ℕ). test e.0) (entries h.installed) ≡ true → (row : Row) × (test row ≡ true)
  row_any is = let found = Any-from_list_any (λ (e : Row × List ℕ). test e.0) (entries h.installed) is in (found.1.0, found.4)
