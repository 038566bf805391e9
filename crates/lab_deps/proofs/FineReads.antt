-- What is excluded where each version that an operation sees is one that it may see.
use Rattle.std.proofs.{Common.{◌≡◌, ℕ, ◌+◌, ◌==◌, true, false, not, ◌&&◌, ◌||◌, cond, Option, Some, None, refl, ap, ◌∙◌, subst, arith}, lemmas.Bool.{false≢true, eqb-true, eq-eqb, and_parts, and_from, not-true, true_from_ne_false}, Math.Bool.{and-false}}
use Rattle.std.specs.{Prelude.{nat_le, nat_lt, is_none, is_some, option_and_then, unwrap_or}, FinMap.{FinMap, get, entries}}
use Rattle.lab_table.specs.Row.{Row, row_cmp}
use Rattle.lab_history.{specs.{History.{History}, Version.{IsCommitted, ops_of, outcome_of, viewed, new_state, version_state, last_write, installers, place_in, is_at}, declared.operation.{Op.{Op}, VersionName.{VersionName, TheVariants.{Initial, Of}}}}, proofs.Greatest.{last_is_greatest}}
use Rattle.lab_deps.specs.{Soundness.{has_committed}, Broken.{is_dangling, has_aborted, is_aborted, is_other, is_intermediate, precedes, is_later, breaks_at}, FirstOf.{IsLeastRow, HasPassing, first_value}, Fine.{is_last, is_own, is_clear, is_fine, is_unfine, IsFineView}, declared.kind.OpFault.{OpFault}}
use Rattle.lab_deps.specs.declared.kind.OpFault.TheVariants as kind
use Rattle.lab_deps.proofs.{FirstOf.{value_least}, Found.{committed}, InstallPlaces.{placed_at}}

-- no fault of what is seen stands
abbrev IsRead : History → ℕ → ℕ → Row → VersionName → Type 0
IsRead h n k row v = (is_dangling h n k row v ≡ false) × (is_aborted h v ≡ false) × (is_intermediate h n row v ≡ false) × (is_later h n row v ≡ false)

is_there : {A : Type 0} (o : Option A) → is_some o ≡ true → is_none o ≡ false
is_there None t = absurd (false≢true t)
is_there (Some x) t = refl

after : (j k : ℕ) → nat_lt j k ≡ true → nat_le k j ≡ false
after j k t = grind arith

module _ (h : History) (n k : ℕ) (row : Row) where
  -- where a transaction's last write of a row has this number, there is such a version
  last_there : (m j : ℕ) → last_write (ops_of h m) row ≡ Some j → is_some (version_state h row (Of m j)) ≡ true
  last_there m j e =
      let w = (last_is_greatest (ops_of h m) row j e).0 in
      ap (λ o. is_some (option_and_then (λ op. new_state op row) o)) w.1 ∙ w.2

  own_read : (m j : ℕ) → IsCommitted h n → (m == n) ≡ true → is_own h m j k row ≡ true → IsRead h n k row (Of m j)
  own_read m j c e own =
      let parts = and_parts (nat_lt j k) (is_some (version_state h row (Of m j))) own in
      let none : is_none (version_state h row (Of m j)) ≡ false = is_there (version_state h row (Of m j)) parts.1 in (
        ap (λ b. b || ((m == n) && nat_le k j)) none ∙ ap (λ b. (m == n) && b) (after j k parts.0) ∙ and-false (m == n),
        ap has_aborted (ap (outcome_of h) (eqb-true m n e) ∙ c),
        ap (λ b. not b && is_other (last_write (ops_of h m) row) j) e,
        ap (λ b. not b && (has_committed (outcome_of h m) && precedes (place_in (installers h row) n) (place_in (installers h row) m))) e,
      )

  other_read : (m j : ℕ) → (m == n) ≡ false → (is_last h m j row && is_clear h n m row) ≡ true → IsRead h n k row (Of m j)
  other_read m j e t =
      let parts = and_parts (is_last h m j row) (is_clear h n m row) t in
      let last = and_parts (has_committed (outcome_of h m)) (is_at (last_write (ops_of h m) row) j) parts.0 in
      let number : last_write (ops_of h m) row ≡ Some j = placed_at (last_write (ops_of h m) row) j last.1 in
      let none : is_none (version_state h row (Of m j)) ≡ false = is_there (version_state h row (Of m j)) (last_there m j number) in (
        ap (λ b. b || ((m == n) && nat_le k j)) none ∙ ap (λ b. b && nat_le k j) e,
        ap has_aborted (committed (outcome_of h m) last.0),
        ap (λ b. not b && is_other (last_write (ops_of h m) row) j) e ∙ ap (λ o. is_other o j) number ∙ ap not (eq-eqb j j refl),
        ap (λ b. not (m == n) && (has_committed (outcome_of h m) && b)) (not-true (precedes (place_in (installers h row) n) (place_in (installers h row) m)) parts.1)
            ∙ ap (λ b. not (m == n) && b) (and-false (has_committed (outcome_of h m))) ∙ and-false (not (m == n)),
      )

  fine_read : (v : VersionName) → IsCommitted h n → is_fine h n k row v ≡ true → IsRead h n k row v
  fine_read Initial c t = (refl, refl, refl, refl)
  fine_read (Of m j) c t =
      elim (m == n) as (λ b. (m == n) ≡ b → cond b (is_own h m j k row) (is_last h m j row && is_clear h n m row) ≡ true → IsRead h n k row (Of m j)) [
        | true ↦ λ e s. own_read m j c e s
        | false ↦ λ e s. other_read m j e s
      ] refl t

  -- what may be seen may be seen by the next operation too
  fine_next : (v : VersionName) → is_fine h n k row v ≡ true → is_fine h n (k + 1) row v ≡ true
  fine_next Initial t = refl
  fine_next (Of m j) t =
      elim (m == n) as (λ b. cond b (is_own h m j k row) (is_last h m j row && is_clear h n m row) ≡ true → cond b (is_own h m j (k + 1) row) (is_last h m j row && is_clear h n m row) ≡ true) [
        | true ↦ λ s.
            let parts = and_parts (nat_lt j k) (is_some (version_state h row (Of m j))) s in
            and_from (nat_lt j (k + 1)) (is_some (version_state h row (Of m j))) (later j k parts.0) parts.1
        | false ↦ λ s. s
      ] t
    where
      later : (j k : ℕ) → nat_lt j k ≡ true → nat_lt j (k + 1) ≡ true
      later j k t = grind arith

  -- so no test of a version that is seen is true
  fine_breaks : (v : VersionName) → IsRead h n k row v → (kind : OpFault) → breaks_at kind h n k row v ≡ false
  fine_breaks v read kind.Dangling = read.0
  fine_breaks v read kind.AbortedRead = read.1
  fine_breaks v read kind.IntermediateRead = read.2
  fine_breaks v read kind.OwnWriteMissed = refl
  fine_breaks v read kind.LaterThanOwn = read.3
  fine_breaks v read kind.RowsDiffer = refl
  fine_breaks v read kind.WritesDiffer = refl

module _ (h : History) (n k : ℕ) where
  -- where none of a view is found that may not be seen, each may
  pub all_fine : (view : FinMap row_cmp VersionName) → first_value (is_unfine h n k) (entries view) ≡ None → IsFineView h n k view
  all_fine view none row v e =
      true_from_ne_false _ (λ off. subst (IsLeastRow (HasPassing (is_unfine h n k) view)) none (value_least (is_unfine h n k) view) row (v, e, ap not off))

  -- and the view may be seen by the next operation too
  pub next_fine : (view : FinMap row_cmp VersionName) → IsFineView h n k view → IsFineView h n (k + 1) view
  next_fine view fine row v e = fine_next h n k row v (fine row v e)

  -- what an operation sees that has such a view breaks nothing
  pub view_breaks : (op : Op) → IsCommitted h n → IsFineView h n k op.view → (kind : OpFault) (row : Row) → breaks_at kind h n k row (viewed op row) ≡ false
  view_breaks op c fine kind row = fine_breaks h n k row (viewed op row) (fine_read h n k row (viewed op row) c (seen (get op.view row) refl)) kind
    where
      seen : (o : Option VersionName) → get op.view row ≡ o → is_fine h n k row (unwrap_or o Initial) ≡ true
      seen None e = refl
      seen (Some v) e = fine row v e
