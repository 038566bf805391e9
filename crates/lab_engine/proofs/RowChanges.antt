-- What is kept of rows, where it changes for one of them.
use Rattle.lab_engine.proofs.Common.{ap, Bool, cond, eq_reversed, false, is_eq, IsReady, Kept, Option, refl, Row, row_cmp, row_eq, rows_total, same_row, Some, subst, sym, true, ◌&&◌, ◌∙◌, ◌≡◌}

-- what depends on whether a row is a certain one is shown of that one and of the others
pub by_row : (Q : Row → Bool → Type 0) (row : Row) → Q row true → ((other : Row) → Q other false) → (other : Row) → Q other (row_eq other row)
by_row Q row own others other = at (row_eq other row) refl where
  at : (b : Bool) → row_eq other row ≡ b → Q other b
  at true is = subst (λ r. Q r true) (sym (same_row other row is)) own
  at false is = others other

-- what is found after one row's changed
found : (row : Row) (v : Kept) (old new : Row → Option Kept) → ((q : Row) → new q ≡ cond (is_eq (row_cmp row q)) (Some v) (old q)) → (other : Row) → new other ≡ cond (row_eq other row) (Some v) (old other)
found row v old new updates other = updates other ∙ ap (λ t. cond t (Some v) (old other)) (ap is_eq (rows_total.antisymm row other) ∙ eq_reversed (row_cmp other row))

module _ {C : Type 0} (says : Option Kept → C) (row : Row) (old : Row → Option Kept) where
  -- it may as well change where it says the same
  pub left : (to : Option Kept → C) → says (old row) ≡ to (old row) → (other : Row) → says (old other) ≡ cond (row_eq other row) (to (old other)) (says (old other))
  left to same = by_row (λ r b. says (old r) ≡ cond b (to (old r)) (says (old r))) row same (λ _. refl)

  -- where a row's is let go
  pub left_off : (b : Bool) (now : C) → says (old row) ≡ now → (other : Row) → says (old other) ≡ cond (row_eq other row && b) now (says (old other))
  left_off b now same = by_row (λ r own. says (old r) ≡ cond (own && b) now (says (old r))) row (elim b as (λ b. says (old row) ≡ cond b now (says (old row))) [ true ↦ same | false ↦ refl ]) (λ _. refl)

  module _ (v : Kept) (new : Row → Option Kept) (updates : (q : Row) → new q ≡ cond (is_eq (row_cmp row q)) (Some v) (old q)) where
    -- the row's own changes so, and no other's
    pub changed : (to : Option Kept → C) → says (Some v) ≡ to (old row) → (other : Row) → says (new other) ≡ cond (row_eq other row) (to (old other)) (says (old other))
    changed to is_so other = ap says (found row v old new updates other) ∙ by_row (λ r b. says (cond b (Some v) (old r)) ≡ cond b (to (old r)) (says (old r))) row is_so (λ _. refl) other

    -- it changes where a test passes too
    pub changed_if : (b : Bool) (now : C) → says (Some v) ≡ cond b now (says (old row)) → (other : Row) → says (new other) ≡ cond (row_eq other row && b) now (says (old other))
    changed_if b now is_so other = ap says (found row v old new updates other) ∙ by_row (λ r own. says (cond own (Some v) (old r)) ≡ cond (own && b) now (says (old r))) row is_so (λ _. refl) other

    -- nothing changes
    pub unchanged : says (Some v) ≡ says (old row) → (other : Row) → says (new other) ≡ says (old other)
    unchanged is_so other = ap says (found row v old new updates other) ∙ by_row (λ r own. says (cond own (Some v) (old r)) ≡ says (old r)) row is_so (λ _. refl) other

-- there is room for what may be kept
abbrev pub IsReadyIn : Option Kept → Type 0
IsReadyIn o = (kept : Kept) × (o ≡ Some kept) × IsReady kept

module _ (row : Row) (v : Kept) (old new : Row → Option Kept) (updates : (q : Row) → new q ≡ cond (is_eq (row_cmp row q)) (Some v) (old q)) where
  -- where there is room in the row's own, there is as before
  pub ready_still : (IsReadyIn (old row) → IsReady v) → (other : Row) → IsReadyIn (old other) → IsReadyIn (new other)
  ready_still ready other was = subst IsReadyIn (sym (found row v old new updates other))
      (by_row (λ r b. IsReadyIn (old r) → IsReadyIn (cond b (Some v) (old r))) row (λ own. (v, refl, ready own)) (λ _ still. still) other was)

-- what is kept where something is
pub ready_in : (kept : Kept) (o : Option Kept) → o ≡ Some kept → IsReadyIn o → IsReady kept
ready_in kept o is was = let same : was.0 ≡ kept = cc in subst IsReady same was.2
