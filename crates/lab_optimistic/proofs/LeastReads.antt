-- The conflict at the least row that a transaction has read.
use Rattle.std.proofs.Common.{◌≡◌, ◌∙◌, ℕ, refl, sym, ap, subst, Bool, true, false, cond, is_lt, ◌||◌, inl, inr, T, List, [], ◌∷◌, Option, Some, None}
use Rattle.lab_engine.proofs.Common.{below_all, both, chain_kept, entries_in, find, get, is_sorted, IsBelow, kept_at, Kept, list_any, matches, may_match, nat_lt, no_match, none_some, option_or, or_cases, or_parts, Row, row_cmp, row_eq, row_eq_self, rows_total, same_row, same_Some, State, Statement, statements_of, true≢false, IsStrictlySortedBy, keys_of}
use Rattle.lab_engine.specs.{declared.{asker.Asker.{Asker}, row_state.Installed.{Installed}, rules.{Conflict.{Conflict}, ConflictKind.TheVariants.{Read}}}, Taken.{comes_before}}
use Rattle.lab_engine.proofs.{FailingRows.{after_found, not_both_ways}, Holding.{behind}, KeptChains.{find_kept, sorted_kept}}
use Rattle.lab_optimistic.{specs.{Changes.{first_change, has_read, has_read_either, state_of}, Reads.{any_may_match, change_at, change_of, conflict_at, first_in, IsLeastOf, IsLeastRead, nearer}}, proofs.LeastRows.{before_less, not_below}}

module _ (asker : Asker) where
  -- what is the least of more rows is so of fewer, where no other one has a conflict
  pub least_fewer : (p q : Row → Bool) (found : Option Conflict) → ((row : Row) → q row ≡ true → p row ≡ true) → IsLeastOf asker p found → IsLeastOf asker q found
  least_fewer p q None fewer h = λ row passes. h row (fewer row passes)
  least_fewer p q (Some c) fewer h = (h.0, h.1, λ row below passes. h.2 row below (fewer row passes))

  -- ---- one row more

  module _ (passes : Row → Bool) (s : Statement) (row : Row) (only : (other : Row) → may_match s other ≡ true → other ≡ row) where
    abbrev or_named : Row → Bool
    or_named q = passes q || may_match s q

    -- of the rows before what was found none has a conflict
    below_found : (found : Option Conflict) → IsLeastOf asker passes found → comes_before row found ≡ true → (q : Row) → IsBelow q row → passes q ≡ true → change_at asker q ≡ None
    below_found None h before q below old = h q old
    below_found (Some c) h before q below old = h.2 q (rows_total.trans q row c.row below (before_less row c.row before)) old

    unchanged : change_at asker row ≡ None → (found : Option Conflict) → IsLeastOf asker passes found → IsLeastOf asker or_named found
    unchanged none None h = λ q any. elim (or_cases (passes q) (may_match s q) any) [
      | inl old ↦ h q old
      | inr may ↦ ap (change_at asker) (only q may) ∙ none
    ]
    unchanged none (Some c) h = (
      h.0,
      h.1,
      λ q below any. elim (or_cases (passes q) (may_match s q) any) [
        | inl old ↦ h.2 q below old
        | inr may ↦ ap (change_at asker) (only q may) ∙ none
      ],
    )

    after : (found : Option Conflict) → IsLeastOf asker passes found → comes_before row found ≡ false → IsLeastOf asker or_named found
    after None h behind = absurd (true≢false behind)
    after (Some c) h behind = (
      h.0,
      h.1,
      λ q below any. elim (or_cases (passes q) (may_match s q) any) [
        | inl old ↦ h.2 q below old
        | inr may ↦ absurd (true≢false (sym (ap is_lt (subst (λ r. IsBelow r c.row) (only q may) below)) ∙ behind))
      ],
    )

    pub least_nearer : (found : Option Conflict) → IsLeastOf asker passes found → IsLeastOf asker or_named (nearer asker row found)
    least_nearer found h = at (comes_before row found) refl (change_at asker row) refl
      where
        at : (b : Bool) → comes_before row found ≡ b → (o : Option ℕ) → change_at asker row ≡ o → IsLeastOf asker or_named (cond b (conflict_at row o found) found)
        at true before (Some by) is = (
          refl,
          is,
          λ q below any. elim (or_cases (passes q) (may_match s q) any) [
            | inl old ↦ below_found found h before q below old
            | inr may ↦ absurd (not_below q row below (only q may))
          ],
        )
        at true before None none = unchanged none found h
        at false behind o is = after found h behind

  -- ---- rows that no statement may match

  none_match : (row : Row) (state : State) (ss : List Statement) → any_may_match ss row ≡ false → list_any (λ s. matches s row state) ss ≡ false
  none_match row state [] off = refl
  none_match row state (s ∷ ss) off =
      let parts = or_parts (may_match s row) (any_may_match ss row) off in
      ap (λ b. b || list_any (λ s. matches s row state) ss) (no_match s row parts.0 state) ∙ none_match row state ss parts.1

  nothing_changes : (test : State → State → Bool) → ((old new : State) → test old new ≡ false) → (start : State) (place : ℕ) (c : List Installed) → first_change test start place c ≡ None
  nothing_changes test never start place [] = refl
  nothing_changes test never start place (i ∷ older) =
      ap (λ b. cond (nat_lt i.place place) None (option_or (first_change test start place older) (cond b (Some i.by) None))) (never (state_of start older) i.version.state)
      ∙ ap (λ o. cond (nat_lt i.place place) None (option_or o None)) (nothing_changes test never start place older) ∙ either (nat_lt i.place place)
    where
      either : (b : Bool) → ◌≡◌ {A = Option ℕ} (cond b None None) None
      either true = refl
      either false = refl

  unread : (row : Row) → any_may_match (statements_of asker.running.now) row ≡ false → change_at asker row ≡ None
  unread row off =
      let ran = statements_of asker.running.now in
      nothing_changes (has_read_either asker row)
      (λ old new. ap (λ b. b || has_read asker row new) (none_match row old ran off) ∙ none_match row new ran off) (get asker.setup.now row) asker.running.now.before _

  -- so those that one may match are all
  pub named_all : (found : Option Conflict) → IsLeastOf asker (any_may_match (statements_of asker.running.now)) found → IsLeastRead asker found
  named_all found = at found
    where
      by : (row : Row) → (any_may_match (statements_of asker.running.now) row ≡ true → change_at asker row ≡ None) → (b : Bool) → any_may_match (statements_of asker.running.now) row ≡ b → change_at asker row ≡ None
      by row h true may = h may
      by row h false off = unread row off

      at : (found : Option Conflict) → IsLeastOf asker (any_may_match (statements_of asker.running.now)) found → IsLeastRead asker found
      at None h = λ row _. by row (h row) (any_may_match (statements_of asker.running.now) row) refl
      at (Some c) h = (h.0, h.1, λ row below _. by row (h.2 row below) (any_may_match (statements_of asker.running.now) row) refl)

  -- ---- all rows that somebody has written

  -- the conflict of the least of some rows that has one
  abbrev IsLeastIn : List (Row × Kept) → Option Conflict → Type 0
  IsLeastIn es None = (row : Row) (kept : Kept) → find row_cmp row es ≡ Some kept → change_of asker row kept.chain ≡ None
  IsLeastIn es (Some c) = (c.kind ≡ Read) × (own : Kept) × (find row_cmp c.row es ≡ Some own) × (change_of asker c.row own.chain ≡ Some c.by)
      × ((row : Row) (kept : Kept) → IsBelow row c.row → find row_cmp row es ≡ Some kept → change_of asker row kept.chain ≡ None)

  module _ (e : Row × Kept) (es : List (Row × Kept)) (below_es : T (below_all row_cmp e.0 es)) where
    -- a row that is found is the first or one behind it
    found_by : (row : Row) (kept : Kept) → (change_of asker e.0 e.1.chain ≡ None) → (find row_cmp row es ≡ Some kept → change_of asker row kept.chain ≡ None)
        → find row_cmp row (e ∷ es) ≡ Some kept → change_of asker row kept.chain ≡ None
    found_by row kept none rest is = at (row_eq row e.0) refl is
      where
        at : (b : Bool) → row_eq row e.0 ≡ b → cond b (Some e.1) (find row_cmp row es) ≡ Some kept → change_of asker row kept.chain ≡ None
        at true same own = (λ i. change_of asker (same_row row e.0 same i) ((sym (same_Some e.1 kept own) i).chain)) ∙ none
        at false apart own = rest own

    -- none is below the first
    none_below : {P : Type 0} (row : Row) (kept : Kept) → IsBelow row e.0 → find row_cmp row (e ∷ es) ≡ Some kept → P
    none_below {P} row kept below is = at (row_eq row e.0) refl is
      where
        at : (b : Bool) → row_eq row e.0 ≡ b → cond b (Some e.1) (find row_cmp row es) ≡ Some kept → P
        at true same own = absurd (not_below row e.0 below (same_row row e.0 same))
        at false apart own = not_both_ways row e.0 below (after_found e.0 es row kept below_es own)

    first_or : (rest : Option Conflict) → IsLeastIn es rest → (o : Option ℕ) → change_of asker e.0 e.1.chain ≡ o → IsLeastIn (e ∷ es) (conflict_at e.0 o rest)
    first_or rest h (Some by) is = (refl, e.1, ap (λ b. cond b (Some e.1) (find row_cmp e.0 es)) (row_eq_self e.0), is, λ row kept below own. none_below row kept below own)
    first_or None h None none = λ row kept own. found_by row kept none (h row kept) own
    first_or (Some c) h None none = (h.0, h.1, behind e es c.row h.1 below_es h.2, h.3, λ row kept below own. found_by row kept none (h.4 row kept below) own)

  least_in : (es : List (Row × Kept)) → T (is_sorted row_cmp es) → IsLeastIn es (first_in asker es)
  least_in [] sorted = λ row kept is. none_some _ is
  least_in (e ∷ es) sorted =
      let parts = both (below_all row_cmp e.0 es) (is_sorted row_cmp es) sorted in
      first_or e es parts.0 (first_in asker es) (least_in es parts.1) (change_of asker e.0 e.1.chain) refl

  change_by : (row : Row) (o : Option Kept) → ((kept : Kept) → o ≡ Some kept → change_of asker row kept.chain ≡ None) → change_of asker row (chain_kept o) ≡ None
  change_by row None h = refl
  change_by row (Some kept) h = h kept refl

  -- the first of all that somebody has written is the least of all
  pub first_is_least : (es : List (Row × Kept)) → es ≡ entries_in asker.situation.now.rows → IsStrictlySortedBy row_cmp (keys_of es) → IsLeastRead asker (first_in asker es)
  first_is_least es is ordered = at (first_in asker es) (least_in es (sorted_kept es ordered))
    where
      found_as : (row : Row) → find row_cmp row es ≡ kept_at asker.situation.now.rows row
      found_as row = ap (find row_cmp row) is ∙ find_kept row (entries_in asker.situation.now.rows)

      at : (found : Option Conflict) → IsLeastIn es found → IsLeastRead asker found
      at None h = λ row _. change_by row (kept_at asker.situation.now.rows row) (λ kept own. h row kept (found_as row ∙ own))
      at (Some c) h = (
        h.0,
        ap (λ o. change_of asker c.row (chain_kept o)) (sym (found_as c.row) ∙ h.2) ∙ h.3,
        λ row below _. change_by row (kept_at asker.situation.now.rows row) (λ kept own. h.4 row kept below (found_as row ∙ own)),
      )
