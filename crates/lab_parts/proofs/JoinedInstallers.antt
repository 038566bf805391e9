-- Who installed a row in two parts, and which version a moved operation sees.
use Rattle.std.{proofs.{Common.{◌≡◌, ℕ, true, false, cond, Option, Some, None, List, [], ◌∷◌, ◌++◌, map, refl, sym, ap, ◌∙◌}, lemmas.List.{append-nil}}, specs.{Prelude.{unwrap_or, option_map}, Option.{option_or}, List.{last_or}, FinMap.{find, get, entries, get-entries, get-from_entries}}}
use Rattle.lab_table.{specs.Row.{Row, row_cmp, row_eq, rows_total}, proofs.Maps.{same_row}}
use Rattle.lab_history.specs.{History.{History}, Version.{installers, viewed}, declared.operation.{Op.{Op}, VersionName.{VersionName, TheVariants.{Initial}}}}
use Rattle.lab_parts.specs.Whole.{moved, left_version, seam_version, moved_version, moved_op, joined}

-- in two lists of entries a row is found in the first, or else in the second
find_either : {A : Type 0} (row : Row) (xs ys : List (Row × A)) → find row_cmp row (xs ++ ys) ≡ option_or (find row_cmp row xs) (find row_cmp row ys)
find_either row [] ys = refl
find_either row (x ∷ xs) ys =
    elim (row_eq row x.0) as (λ b. cond b (Some x.1) (find row_cmp row (xs ++ ys)) ≡ option_or (cond b (Some x.1) (find row_cmp row xs)) (find row_cmp row ys)) [
      | true ↦ refl
      | false ↦ find_either row xs ys
    ]

-- a row is found with what is made of its value
find_made : {A B : Type 0} (f : Row → A → B) (row : Row) (es : List (Row × A)) → find row_cmp row (map (λ e. (e.0, f e.0 e.1)) es) ≡ option_map (f row) (find row_cmp row es)
find_made f row [] = refl
find_made {B = B} f row (e ∷ es) =
    elim (row_eq row e.0) as (λ b. row_eq row e.0 ≡ b → cond b (Some (f e.0 e.1)) (find row_cmp row (map (λ e. (e.0, f e.0 e.1)) es)) ≡ option_map (f row) (cond b (Some e.1) (find row_cmp row es))) [
      | true ↦ λ same. ap (λ r. Some (f r e.1)) (sym (same_row row e.0 same))
      | false ↦ λ _. find_made f row es
    ] refl

module _ (a b : History) (row : Row) where
  -- those of the second part stand behind those of the first
  pub installers-joined : installers (joined a b) row ≡ installers a row ++ map (moved a) (installers b row)
  installers-joined =
      ap (λ o. unwrap_or o [])
      (get-from_entries rows_total (map (λ e. (e.0, installers a e.0 ++ map (moved a) e.1)) (entries b.installed) ++ entries a.installed) row
      ∙ find_either row (map (λ e. (e.0, installers a e.0 ++ map (moved a) e.1)) (entries b.installed)) (entries a.installed)
      ∙ ap (λ o. option_or o (find row_cmp row (entries a.installed)))
      (find_made (λ r ns. installers a r ++ map (moved a) ns) row (entries b.installed) ∙ ap (option_map (λ ns. installers a row ++ map (moved a) ns)) (sym (get-entries b.installed row)))
      ∙ ap (option_or (option_map (λ ns. installers a row ++ map (moved a) ns) (get b.installed row))) (sym (get-entries a.installed row)))
      ∙ either (get b.installed row)
    where
      either : (o : Option (List ℕ)) → unwrap_or (option_or (option_map (λ ns. installers a row ++ map (moved a) ns) o) (get a.installed row)) [] ≡ installers a row ++ map (moved a) (unwrap_or o [])
      either None = sym (append-nil (installers a row))
      either (Some ns) = refl

  -- a row that nobody installed has no last version
  seam_none : get a.installed row ≡ None → seam_version a row ≡ Initial
  seam_none e = ap (λ o. left_version a row (last_or None (unwrap_or o []))) e

  -- a moved operation sees the moved version, of each row
  pub viewed-moved : (op : Op) → viewed (moved_op a op) row ≡ moved_version a row (viewed op row)
  viewed-moved op =
      ap (λ o. unwrap_or o Initial)
      (get-from_entries rows_total (map (λ e. (e.0, moved_version a e.0 e.1)) (entries op.view) ++ map (λ e. (e.0, seam_version a e.0)) (entries a.installed)) row
      ∙ find_either row (map (λ e. (e.0, moved_version a e.0 e.1)) (entries op.view)) (map (λ e. (e.0, seam_version a e.0)) (entries a.installed))
      ∙ ap (λ o. option_or o (find row_cmp row (map (λ e. (e.0, seam_version a e.0)) (entries a.installed))))
      (find_made (moved_version a) row (entries op.view) ∙ ap (option_map (moved_version a row)) (sym (get-entries op.view row)))
      ∙ ap (option_or (option_map (moved_version a row) (get op.view row)))
      (find_made (λ r _. seam_version a r) row (entries a.installed) ∙ ap (option_map (λ _. seam_version a row)) (sym (get-entries a.installed row))))
      ∙ either (get op.view row)
    where
      unseen : (o : Option (List ℕ)) → get a.installed row ≡ o → unwrap_or (option_map (λ _. seam_version a row) o) Initial ≡ seam_version a row
      unseen None e = sym (seam_none e)
      unseen (Some ns) e = refl

      either : (o : Option VersionName) → unwrap_or (option_or (option_map (moved_version a row) o) (option_map (λ _. seam_version a row) (get a.installed row))) Initial
          ≡ moved_version a row (unwrap_or o Initial)
      either None = unseen (get a.installed row) refl
      either (Some v) = refl
