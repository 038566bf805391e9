-- Tests of what transactions read find it.
use Rattle.std.{proofs.{Common.{◌≡◌, ℕ, zero, suc, ◌<◌, ◌≤◌, Bool, true, Option, Some, None, refl, ap, ◌∙◌}, lemmas.{Bool.{false≢true, and_parts, and_from, ltb-true, lt-ltb, leb-true, le-leb}, Option.{none-some, slice_get-get_or}, List.Folds.{Any-from_list_any}}}, specs.{List.{list_any}}}
use Rattle.lab_table.{specs.Row.{Row}, proofs.Members.{member_at}}
use Rattle.lab_history.specs.{History.{History}, Version.{ops_of, IsOp, installers, place_in}, declared.operation.Op.{Op}}
use Rattle.lab_drawing.specs.Reads.{reads, place_seen, is_below, is_above, is_older_read, is_newer_read, has_older, has_newer, older_at, newer_at, read_older, read_newer}
use Rattle.lab_drawing.specs.Anomalies.{Read, Wrote, ReadBefore, ReadAfter}
use Rattle.lab_drawing.proofs.Orderables.{some_passes}

module _ (h : History) (n : ℕ) where
  -- an operation that passes a test is one of the transaction's, and the other way round
  pub op_any : (test : Op → Bool) → list_any test (ops_of h n) ≡ true → (op : Op) × ((k : ℕ) × IsOp h n k op) × (test op ≡ true)
  op_any test is =
      let found = Any-from_list_any test (ops_of h n) is in
      (found.1, (suc found.0, slice_get-get_or (ops_of h n) found.0 found.1 found.2 ∙ ap Some found.3), found.4)

  pub any_op : (test : Op → Bool) (op : Op) (k : ℕ) → IsOp h n k op → test op ≡ true → list_any test (ops_of h n) ≡ true
  any_op test op zero at is = absurd (none-some op at)
  any_op test op (suc k) at is = some_passes test (ops_of h n) op (member_at (ops_of h n) k op at) is

  -- a position below another, and at it or above
  below_so : (seen : Option ℕ) (p : ℕ) → is_below seen p ≡ true → (v : ℕ) × (seen ≡ Some v) × (v < p)
  below_so None p is = absurd (false≢true is)
  below_so (Some v) p is = (v, refl, ltb-true v p is)

  above_so : (seen : Option ℕ) (p : ℕ) → is_above seen p ≡ true → (v : ℕ) × (seen ≡ Some v) × (p ≤ v)
  above_so None p is = absurd (false≢true is)
  above_so (Some v) p is = (v, refl, leb-true p v is)

  module _ (row : Row) where
    older_so : (p : ℕ) → has_older h n row p ≡ true → (v : ℕ) × Read h n row v × (v < p)
    older_so p is =
        let found = op_any (is_older_read h n row p) is in
        let parts = and_parts (reads found.0 row) (is_below (place_seen h n row found.0) p) found.2 in
        let under = below_so (place_seen h n row found.0) p parts.1 in
        (under.0, (found.0, found.1, parts.0, under.1), under.2)

    newer_so : (p : ℕ) → has_newer h n row p ≡ true → (v : ℕ) × Read h n row v × (p ≤ v)
    newer_so p is =
        let found = op_any (is_newer_read h n row p) is in
        let parts = and_parts (reads found.0 row) (is_above (place_seen h n row found.0) p) found.2 in
        let over = above_so (place_seen h n row found.0) p parts.1 in
        (over.0, (found.0, found.1, parts.0, over.1), over.2)

    so_older : (v p : ℕ) → Read h n row v → v < p → has_older h n row p ≡ true
    so_older v p (op, (k, at), reads_it, seen) lt =
        any_op (is_older_read h n row p) op k at
        (and_from (reads op row) (is_below (place_seen h n row op) p) reads_it (ap (λ s. is_below s p) seen ∙ lt-ltb v p lt))

    so_newer : (v p : ℕ) → Read h n row v → p ≤ v → has_newer h n row p ≡ true
    so_newer v p (op, (k, at), reads_it, seen) le =
        any_op (is_newer_read h n row p) op k at
        (and_from (reads op row) (is_above (place_seen h n row op) p) reads_it (ap (λ s. is_above s p) seen ∙ le-leb p v le))

    -- reads before and after another transaction's write
    before_at : (m : ℕ) (o : Option ℕ) → Wrote h m row → place_in (installers h row) m ≡ o → older_at h n row o ≡ true → ReadBefore h n row m
    before_at m None wrote placed is = absurd (false≢true is)
    before_at m (Some p) wrote placed is = let found = older_so p is in (found.0, p, found.1, (wrote, placed), found.2)

    after_at : (m : ℕ) (o : Option ℕ) → Wrote h m row → place_in (installers h row) m ≡ o → newer_at h n row o ≡ true → ReadAfter h n row m
    after_at m None wrote placed is = absurd (false≢true is)
    after_at m (Some p) wrote placed is = let found = newer_so p is in (found.0, p, found.1, (wrote, placed), found.2)

    pub before_so : (m : ℕ) → Wrote h m row → read_older h n row m ≡ true → ReadBefore h n row m
    before_so m wrote is = before_at m (place_in (installers h row) m) wrote refl is

    pub after_so : (m : ℕ) → Wrote h m row → read_newer h n row m ≡ true → ReadAfter h n row m
    after_so m wrote is = after_at m (place_in (installers h row) m) wrote refl is

    pub so_before : (m : ℕ) → ReadBefore h n row m → read_older h n row m ≡ true
    so_before m (v, p, read, installed, lt) = ap (older_at h n row) installed.1 ∙ so_older v p read lt

    pub so_after : (m : ℕ) → ReadAfter h n row m → read_newer h n row m ≡ true
    so_after m (v, p, read, installed, le) = ap (newer_at h n row) installed.1 ∙ so_newer v p read le

-- the row was written by the other transaction
pub before_wrote : (h : History) (n m : ℕ) (row : Row) → ReadBefore h n row m → Wrote h m row
before_wrote h n m row (v, p, read, installed, lt) = installed.0

pub after_wrote : (h : History) (n m : ℕ) (row : Row) → ReadAfter h n row m → Wrote h m row
after_wrote h n m row (v, p, read, installed, le) = installed.0
