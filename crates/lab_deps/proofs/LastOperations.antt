-- What an operation writes is its transaction's last write where none behind it writes the row.
use Rattle.std.proofs.{Common.{◌≡◌, ℕ, zero, suc, Bool, true, false, not, cond, Option, Some, None, List, [], ◌∷◌, ◌+◌, ◌<◌, length, get_or, drop, add-one, refl, sym, ap, ◌∙◌}, lemmas.{Bool.{not-true, eq-eqb, false≢true, and_parts}, Option.{none-some, same_Some, slice_get_read}}}
use Rattle.std.specs.{Prelude.{option_map, is_some, is_none, slice_get}, List.{list_all}, Option.{option_or}, FinMap.{find}}
use Rattle.lab_table.specs.Row.{Row, row_cmp, row_test, rows_tested}
use Rattle.lab_history.specs.{Version.{last_write, new_state, WritesAt, is_at}, VersionName.{new_states, state_value}, declared.operation.{Op.{Op}, State.{State}}}
use Rattle.lab_deps.proofs.BrokenStands.{decides_none}

module _ (row : Row) where
  -- what is found behind an operation and what it writes give the last write
  abbrev from : Option ℕ → Bool → Option ℕ
  from later b = option_or (option_map (λ k. suc k) later) (cond b (Some 1) None)

  nothing : {A : Type 0} (o : Option A) → is_none o ≡ true → is_some o ≡ false
  nothing o t = ap is_some ((decides_none o).0 t)

  -- where no operation behind one writes the row, and it doesn't
  none_from : (ops : List Op) (i : ℕ) (op : Op) → slice_get ops i ≡ Some op → is_none (new_state op row) ≡ true → last_write (drop (suc i) ops) row ≡ None → last_write (drop i ops) row ≡ None
  none_from [] i op g w none = absurd (none-some op g)
  none_from (x ∷ ops) zero op g w none = ap (λ o. from o (is_some (new_state x row))) none ∙ ap (from None) (nothing (new_state x row) (ap (λ y. is_none (new_state y row)) (same_Some x op g) ∙ w))
  none_from (x ∷ ops) (suc i) op g w none = none_from ops i op g w none

  pub one_more : (ops : List Op) (i : ℕ) (op : Op) → i < length ops → op ≡ get_or ops i op → is_none (new_state op row) ≡ true → last_write (drop (i + 1) ops) row ≡ None → last_write (drop i ops) row ≡ None
  one_more ops i op l is w none = none_from ops i op (slice_get_read ops (length ops) i op refl l is) w (ap (λ j. last_write (drop j ops) row) (sym (add-one i)) ∙ none)

  last : (ops : List Op) (p : ℕ) (op : Op) → slice_get ops p ≡ Some op → is_some (new_state op row) ≡ true → last_write (drop (suc p) ops) row ≡ None → last_write ops row ≡ Some (suc p)
  last [] p op g w none = absurd (none-some op g)
  last (x ∷ ops) zero op g w none = ap (λ o. from o (is_some (new_state x row))) none ∙ ap (from None) (ap (λ y. is_some (new_state y row)) (same_Some x op g) ∙ w)
  last (x ∷ ops) (suc p) op g w none = ap (λ o. from o (is_some (new_state x row))) (last ops p op g w none)

  pub ends_with : (ops : List Op) (k : ℕ) → last_write (drop k ops) row ≡ None → WritesAt ops k row → is_at (last_write ops row) k ≡ true
  ends_with ops zero none w = absurd (none-some w.0 w.1)
  ends_with ops (suc p) none w = ap (λ o. is_at o (suc p)) (last ops p w.0 w.1 w.2 none) ∙ eq-eqb (suc p) (suc p) refl

  -- a row that isn't among what is written has no new state
  pub none_among : (es : List (Row × State)) → list_all (λ e. not (row_test row e.0)) es ≡ true → find row_cmp row (new_states es) ≡ None
  none_among [] t = refl
  none_among (e ∷ es) t =
      let parts = and_parts (not (row_test row e.0)) (list_all (λ e. not (row_test row e.0)) es) t in
      ap (λ b. cond b (Some (state_value e.1)) (find row_cmp row (new_states es))) (sym (rows_tested row e.0) ∙ not-true (row_test row e.0) parts.0) ∙ none_among es parts.1

-- what is made of something is something
pub made_some : {A B : Type 0} (f : A → B) (o : Option A) (x : Option B) → option_map f o ≡ x → is_some o ≡ true → is_some x ≡ true
made_some f None x e t = absurd (false≢true t)
made_some f (Some a) x e t = ap is_some (sym e)
