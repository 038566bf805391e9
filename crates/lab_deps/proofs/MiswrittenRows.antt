-- At which rows what an operation writes isn't what is due: of a statement that only lists, an insert, and one that changes what it lists.
use Rattle.std.proofs.{Common.{◌≡◌, ◌⊎◌, ℤ, Bool, true, false, not, Option, Some, None, inl, inr, refl, sym, ap, ◌∙◌, subst}, lemmas.Bool.{not-true}}
use Rattle.std.specs.{Prelude.{is_none, is_some}, Bool.{then_some}, FinMap.{get, entries}}
use Rattle.lab_table.{specs.{Row.{Row, row_eq, row_test, rows_tested}, Table.{State}, Statement.{is_read_only, inserted, rewritten}}, proofs.{Maps.{same_row, row_eq_self}, OneRow.{reader_inserts_none}, Tests.{some_of}}}
use Rattle.lab_history.specs.{History.{History}, Version.{viewed, new_state, state_of}, declared.operation.Op.{Op}}
use Rattle.lab_deps.specs.{Broken.{result_differs, change_differs, choose, insert_differs, writes_other, is_added_otherwise}, FirstOf.{IsLess, IsLeastRow, HasPassing, first_value, first_entry, least}}
use Rattle.lab_deps.proofs.{FirstOf.{first_like, least_where, only_least, value_least}, BrokenRows.{none_is}}

module _ (h : History) (op : Op) where
  abbrev other : Row → Bool
  other row = writes_other h op row (viewed op row)

  abbrev seen : Row → State
  seen row = state_of h row (viewed op row)

  -- what is tested of a row, by what the statement is
  tested : (row : Row) (added : Option (Row × ℤ)) (reads : Bool) → inserted op.statement ≡ added → is_read_only op.statement ≡ reads
      → other row ≡ insert_differs added row (seen row) (new_state op row) (choose reads (is_some (new_state op row)) (change_differs op.statement (get op.rows row) (new_state op row)))
  tested row added reads e f =
      ap (λ o. insert_differs o row (seen row) (new_state op row) (choose (is_read_only op.statement) (is_some (new_state op row)) (change_differs op.statement (get op.rows row) (new_state op row)))) e
      ∙ ap (λ b. insert_differs added row (seen row) (new_state op row) (choose b (is_some (new_state op row)) (change_differs op.statement (get op.rows row) (new_state op row)))) f

  -- a statement that only lists writes nothing
  pub read_least : is_read_only op.statement ≡ true → IsLeastRow (λ row. other row ≡ true) (first_entry (λ row. true) (entries op.writes))
  read_least reads =
      first_like IsLess (HasPassing (λ row state. true) op.writes) (λ row. other row ≡ true) (first_entry (λ row. true) (entries op.writes)) (λ row w. is row ∙ ap is_some w.1)
      (λ row t denied. let state = some_of (new_state op row) (sym (is row) ∙ t) in denied (state.0, state.1, refl)) (value_least (λ row state. true) op.writes)
    where
      is : (row : Row) → other row ≡ is_some (new_state op row)
      is row = tested row None true (reader_inserts_none op.statement reads) reads

  abbrev Elsewhere : Row → Row → Type 0
  Elsewhere added = HasPassing (λ row state. not (row_test row added)) op.writes

  -- an insert writes the row that it adds, which wasn't there, and no other
  pub insert_least : (added : Row × ℤ) → inserted op.statement ≡ Some added
      → IsLeastRow (λ row. other row ≡ true) (least (first_entry (λ row. not (row_test row added.0)) (entries op.writes)) (then_some (is_added_otherwise h op added.1 added.0) added.0))
  insert_least added e =
      least_where (Elsewhere added.0) (λ row. (row ≡ added.0) × (is_added_otherwise h op added.1 added.0 ≡ true)) (λ row. other row ≡ true) (first_entry (λ row. not (row_test row added.0)) (entries op.writes))
      (then_some (is_added_otherwise h op added.1 added.0) added.0) found (λ row t denied. back row t denied (row_eq row added.0) refl)
      (value_least (λ row state. not (row_test row added.0)) op.writes) (only_least (is_added_otherwise h op added.1) added.0)
    where
      is : (row : Row) (b : Bool) → row_eq row added.0 ≡ b → other row ≡ choose b (is_added_otherwise h op added.1 row) (is_some (new_state op row))
      is row b same = tested row (Some added) (is_read_only op.statement) e refl ∙ ap (λ b. choose b (is_added_otherwise h op added.1 row) (is_some (new_state op row))) same

      found : (row : Row) → Elsewhere added.0 row ⊎ ((row ≡ added.0) × (is_added_otherwise h op added.1 added.0 ≡ true)) → other row ≡ true
      found row (inl w) = is row false (sym (rows_tested row added.0) ∙ not-true (row_test row added.0) w.2) ∙ ap is_some w.1
      found row (inr w) = subst (λ r. other r ≡ true) (sym w.0) (is added.0 true (row_eq_self added.0) ∙ w.1)

      back : (row : Row) → other row ≡ true → (Elsewhere added.0 row ⊎ ((row ≡ added.0) × (is_added_otherwise h op added.1 added.0 ≡ true)) → ⊥) → (b : Bool) → row_eq row added.0 ≡ b → ⊥
      back row t denied true same = let at = same_row row added.0 same in denied (inr (at, subst (λ r. is_added_otherwise h op added.1 r ≡ true) at (sym (is row true same) ∙ t)))
      back row t denied false apart = let state = some_of (new_state op row) (sym (is row false apart) ∙ t) in denied (inl (state.0, state.1, ap not (rows_tested row added.0 ∙ apart)))

  abbrev Otherwise : Row → Type 0
  Otherwise = HasPassing (λ row value. result_differs (rewritten op.statement value) (new_state op row)) op.rows

  abbrev Unlisted : Row → Type 0
  Unlisted = HasPassing (λ row state. is_none (get op.rows row)) op.writes

  -- another statement changes each row that it lists, and no other
  pub change_least : inserted op.statement ≡ None → is_read_only op.statement ≡ false
      → IsLeastRow (λ row. other row ≡ true) (least (first_value (λ row value. result_differs (rewritten op.statement value) (new_state op row)) (entries op.rows)) (first_entry (λ row. is_none (get op.rows row)) (entries op.writes)))
  change_least e reads =
      least_where Otherwise Unlisted (λ row. other row ≡ true) (first_value (λ row value. result_differs (rewritten op.statement value) (new_state op row)) (entries op.rows))
      (first_entry (λ row. is_none (get op.rows row)) (entries op.writes)) found (λ row t denied. back row t denied (get op.rows row) refl)
      (value_least (λ row value. result_differs (rewritten op.statement value) (new_state op row)) op.rows) (value_least (λ row state. is_none (get op.rows row)) op.writes)
    where
      is : (row : Row) (listing : State) → get op.rows row ≡ listing → other row ≡ change_differs op.statement listing (new_state op row)
      is row listing at = tested row None false e reads ∙ ap (λ o. change_differs op.statement o (new_state op row)) at

      found : (row : Row) → Otherwise row ⊎ Unlisted row → other row ≡ true
      found row (inl w) = is row (Some w.0) w.1 ∙ w.2
      found row (inr w) = is row None (none_is (get op.rows row) w.2) ∙ ap is_some w.1

      back : (row : Row) → other row ≡ true → (Otherwise row ⊎ Unlisted row → ⊥) → (listing : State) → get op.rows row ≡ listing → ⊥
      back row t denied (Some value) at = denied (inl (value, at, sym (is row (Some value) at) ∙ t))
      back row t denied None at = let state = some_of (new_state op row) (sym (is row None at) ∙ t) in denied (inr (state.0, state.1, ap is_none at))
