-- Which rows an operation misses of the one before it: those that it wrote, and those that it saw of its own transaction.
use Rattle.std.{proofs.{Common.{◌≡◌, ℕ, ◌==◌, Bool, true, false, not, ◌&&◌, Option, Some, None, inl, inr, refl, sym, ap, ◌∙◌, subst}, lemmas.Bool.{false≢true, eq-eqb, and_parts, and_from}}, specs.{Prelude.{is_some, unwrap_or}, FinMap.{get, entries}}}
use Rattle.lab_table.specs.{Row.{Row}, Table.{State}}
use Rattle.lab_history.specs.{Version.{viewed}, declared.operation.{Op.{Op}, VersionName.{VersionName, TheVariants.{Initial, Of}}}}
use Rattle.lab_deps.{specs.{Broken.{choose, is_version, is_of, own_changes, is_missed, is_own_missed}, FirstOf.{IsLess, IsLeastRow, HasPassing, first_value, first_entry, least}}, proofs.FirstOf.{first_like, least_where, value_least}}

changes_own : (n : ℕ) (v u : VersionName) → own_changes n v u ≡ true → is_of n v ≡ true
changes_own n Initial u t = absurd (false≢true t)
changes_own n (Of m j) u t = (and_parts (m == n) (not (is_version n j u)) t).0

unchanged : (n : ℕ) (v : VersionName) → own_changes n v v ≡ false
unchanged n Initial = refl
unchanged n (Of m j) = itself (m == n) (j == j) (eq-eqb j j refl)
  where
    itself : (b c : Bool) → c ≡ true → (b && not (b && c)) ≡ false
    itself true c e = ap not e
    itself false c e = refl

module _ (n k : ℕ) (before op : Op) where
  abbrev missed : Row → Bool
  missed = is_missed n k before op

  abbrev Written : Row → Type 0
  Written = HasPassing (λ row state. missed row) before.writes

  abbrev Seen : Row → Type 0
  Seen = HasPassing (λ row v. missed row) before.view

  -- what is tested of a row that the one before didn't write
  unwritten : (row : Row) → get before.writes row ≡ None → missed row ≡ own_changes n (viewed before row) (viewed op row)
  unwritten row e = ap (λ s. choose (is_some s) (not (is_version n k (viewed op row))) (own_changes n (viewed before row) (viewed op row))) e

  missed_own : (row : Row) → missed row ≡ true → (Written row → ⊥) → own_changes n (viewed before row) (viewed op row) ≡ true
  missed_own row t none = of (get before.writes row) refl
    where
      of : (s : Option State) → get before.writes row ≡ s → own_changes n (viewed before row) (viewed op row) ≡ true
      of (Some s) e = absurd (none (s, e, t))
      of None e = sym (unwritten row e) ∙ t

  -- a version of its own that it changes was seen
  own_seen : (row : Row) → own_changes n (viewed before row) (viewed op row) ≡ true → (v : VersionName) × (get before.view row ≡ Some v) × (own_changes n v (viewed op row) ≡ true)
  own_seen row t = of (get before.view row) refl
    where
      of : (o : Option VersionName) → get before.view row ≡ o → (v : VersionName) × (get before.view row ≡ Some v) × (own_changes n v (viewed op row) ≡ true)
      of None e = absurd (false≢true (sym (ap (λ o. own_changes n (unwrap_or o Initial) (viewed op row)) e) ∙ t))
      of (Some v) e = (v, e, sym (ap (λ o. own_changes n (unwrap_or o Initial) (viewed op row)) e) ∙ t)

  -- the least of the rows that it misses was written or seen
  pub missed_least : IsLeastRow (λ row. missed row ≡ true) (least (first_entry missed (entries before.writes)) (first_entry missed (entries before.view)))
  missed_least =
      least_where Written Seen (λ row. missed row ≡ true) (first_entry missed (entries before.writes)) (first_entry missed (entries before.view)) (λ row w. elim w [ inl u ↦ u.2 | inr v ↦ v.2 ])
      (λ row t denied. let own = own_seen row (missed_own row t (λ w. denied (inl w))) in denied (inr (own.0, own.1, t))) (value_least (λ row state. missed row) before.writes) (value_least (λ row v. missed row) before.view)

  module _ (none : first_entry missed (entries before.writes) ≡ None) where
    none_written : (row : Row) → Written row → ⊥
    none_written = subst (IsLeastRow Written) none (value_least (λ row state. missed row) before.writes)

    -- where it misses none that was written, it is enough to look at versions of its own
    pub own_least : IsLeastRow (λ row. missed row ≡ true) (first_value (is_own_missed n k before op) (entries before.view))
    own_least =
        first_like IsLess (HasPassing (is_own_missed n k before op) before.view) (λ row. missed row ≡ true)
        (first_value (is_own_missed n k before op) (entries before.view))
        (λ row w. (and_parts (own_changes n w.0 (viewed op row)) (missed row) (and_parts (is_of n w.0) _ w.2).1).1)
        (λ row t denied. let own = own_seen row (missed_own row t (none_written row)) in denied (own.0, own.1, and_from _ _ (changes_own n own.0 (viewed op row) own.2) (and_from _ _ own.2 t)))
        (value_least (is_own_missed n k before op) before.view)

    -- and it misses nothing where it sees what that one saw
    pub none_again : before.view ≡ op.view → IsLeastRow (λ row. missed row ≡ true) None
    none_again same = λ row t.
        false≢true (sym (ap (λ view. own_changes n (viewed before row) (unwrap_or (get view row) Initial)) (sym same) ∙ unchanged n (viewed before row)) ∙ missed_own row t (none_written row))
