-- Tests for anomalies of two transactions find them.
use Rattle.std.{proofs.{Common.{◌≡◌, ◌⊎◌, inl, inr, ℕ, Bool, true, false, Option, Some, None, List, refl, ap, ◌∙◌}, lemmas.{Bool.{false≢true, and_parts, and_from, or_cases, or_left, or_right, ltb-true, lt-ltb}, List.Folds.{Any-from_list_any, list_any-from_Any}}}, specs.{Prelude.{nat_lt, filter, Contains}, List.{list_any, Any}}}
use Rattle.lab_table.specs.Row.{Row}
use Rattle.lab_history.specs.{History.{History}, Version.{ops_of, installers, place_in}}
use Rattle.lab_deps.specs.declared.edge.{Edge.{Edge}, Kind.TheVariants.{ItemAnti}}
use Rattle.lab_drawing.specs.Making.{makes}
use Rattle.lab_drawing.specs.Pairs.{overwrites, loses_at, loses, rereads, misses, is_pair, is_neighbour, has_pair}
use Rattle.lab_drawing.specs.Reads.{read_older, read_newer, older_rows, newer_rows}
use Rattle.lab_drawing.specs.Written.{rows_by}
use Rattle.lab_drawing.specs.Anomalies.{Wrote, IsLostUpdate, IsReadSkew, IsFuzzyRead, Misses, IsWriteSkew, HasPair}
use Rattle.lab_drawing.specs.declared.pairs.Pair.{Pair}
use Rattle.lab_drawing.specs.declared.pairs.Pair.TheVariants as pair
use Rattle.lab_drawing.proofs.{Orderables.{passed, kept, some_passes}, WrittenRows.{member_wrote, wrote_member, two_so, so_two}, ReadForms.{op_any, any_op, before_so, after_so, so_before, so_after, before_wrote, after_wrote}}

-- a row that passes a test, and is one of some rows
pub row_any : (test : Row → Bool) (rows : List Row) → list_any test rows ≡ true → (row : Row) × Contains rows row × (test row ≡ true)
row_any test rows is = let found = Any-from_list_any test rows is in (found.1, (found.0, found.2, found.3), found.4)

module _ (h : History) where
  -- lost updates
  lost_at : (two one : ℕ) (row : Row) (o r : Option ℕ) → Wrote h two row → place_in (installers h row) two ≡ o → place_in (installers h row) one ≡ r → loses_at h one row o r ≡ true → IsLostUpdate h two one
  lost_at two one row None r wrote a b is = absurd (false≢true is)
  lost_at two one row (Some p) None wrote a b is = absurd (false≢true is)
  lost_at two one row (Some p) (Some q) wrote a b is =
      let parts = and_parts (nat_lt p q) (overwrites h one row p false (ops_of h one)) is in
      (row, p, q, (wrote, a), b, ltb-true p q parts.0, parts.1)

  lost_so : (two one : ℕ) → is_pair h pair.LostUpdate two one ≡ true → IsLostUpdate h two one
  lost_so two one is =
      let found = row_any (loses h two one) (rows_by h two) is in
      lost_at two one found.0 (place_in (installers h found.0) two) (place_in (installers h found.0) one) (member_wrote h two found.0 found.1) refl refl found.2

  so_lost : (two one : ℕ) → IsLostUpdate h two one → is_pair h pair.LostUpdate two one ≡ true
  so_lost two one (x, p, q, (wrote, a), b, lt, over) =
      some_passes (loses h two one) (rows_by h two) x (wrote_member h two x wrote)
      (ap (λ o. loses_at h one x o (place_in (installers h x) one)) a ∙ ap (loses_at h one x (Some p)) b ∙ and_from (nat_lt p q) (overwrites h one x p false (ops_of h one)) (lt-ltb p q lt) over)

  -- read skews
  skew_so : (one two : ℕ) → is_pair h pair.ReadSkew one two ≡ true → IsReadSkew h one two
  skew_so one two is =
      let rows = rows_by h two in
      let found = two_so (older_rows h one two rows) (newer_rows h one two rows) is in
      let missed = passed (λ row. read_older h one row two) rows found.0 found.3 in
      let seen = passed (λ row. read_newer h one row two) rows found.1 found.4 in
      (found.0, found.1, found.2, before_so h one found.0 two (member_wrote h two found.0 missed.0) missed.1, after_so h one found.1 two (member_wrote h two found.1 seen.0) seen.1)

  so_skew : (one two : ℕ) → IsReadSkew h one two → is_pair h pair.ReadSkew one two ≡ true
  so_skew one two (x, y, apart, before, after) =
      let rows = rows_by h two in
      so_two (older_rows h one two rows) (newer_rows h one two rows) x y apart
      (kept (λ row. read_older h one row two) rows x (wrote_member h two x (before_wrote h one two x before)) (so_before h one x two before))
      (kept (λ row. read_newer h one row two) rows y (wrote_member h two y (after_wrote h one two y after)) (so_after h one y two after))

  -- non-repeatable reads
  fuzzy_so : (one two : ℕ) → is_pair h pair.FuzzyRead one two ≡ true → IsFuzzyRead h one two
  fuzzy_so one two is =
      let found = row_any (rereads h one two) (rows_by h two) is in
      let parts = and_parts (read_older h one found.0 two) (read_newer h one found.0 two) found.2 in
      let wrote = member_wrote h two found.0 found.1 in
      (found.0, before_so h one found.0 two wrote parts.0, after_so h one found.0 two wrote parts.1)

  so_fuzzy : (one two : ℕ) → IsFuzzyRead h one two → is_pair h pair.FuzzyRead one two ≡ true
  so_fuzzy one two (x, before, after) =
      some_passes (rereads h one two) (rows_by h two) x (wrote_member h two x (before_wrote h one two x before))
      (and_from (read_older h one x two) (read_newer h one x two) (so_before h one x two before) (so_after h one x two after))

  -- write skews
  misses_so : (from to : ℕ) (row : Row) → Contains (rows_by h to) row → misses h from to row ≡ true → Misses h from to row
  misses_so from to row there is =
      let found = op_any h from (makes h (record { from = from; to = to; kind = ItemAnti; row = row })) is in
      (member_wrote h to row there, found.0, found.1, found.2)

  so_misses : (from to : ℕ) (row : Row) → Misses h from to row → misses h from to row ≡ true
  so_misses from to row (wrote, op, (k, at), is) = any_op h from (makes h (record { from = from; to = to; kind = ItemAnti; row = row })) op k at is

  write_skew_so : (one two : ℕ) → is_pair h pair.WriteSkew one two ≡ true → IsWriteSkew h one two
  write_skew_so one two is =
      let found = two_so (filter (misses h one two) (rows_by h two)) (filter (misses h two one) (rows_by h one)) is in
      let there = passed (misses h one two) (rows_by h two) found.0 found.3 in
      let back = passed (misses h two one) (rows_by h one) found.1 found.4 in
      (found.0, found.1, found.2, misses_so one two found.0 there.0 there.1, misses_so two one found.1 back.0 back.1)

  so_write_skew : (one two : ℕ) → IsWriteSkew h one two → is_pair h pair.WriteSkew one two ≡ true
  so_write_skew one two (x, y, apart, there, back) =
      so_two (filter (misses h one two) (rows_by h two)) (filter (misses h two one) (rows_by h one)) x y apart
      (kept (misses h one two) (rows_by h two) x (wrote_member h two x there.0) (so_misses one two x there)) (kept (misses h two one) (rows_by h one) y (wrote_member h one y back.0) (so_misses two one y back))

  -- what two transactions have
  abbrev IsPair : Pair → ℕ → ℕ → Type 0
  IsPair pair.LostUpdate one two = IsLostUpdate h one two
  IsPair pair.ReadSkew one two = IsReadSkew h one two
  IsPair pair.FuzzyRead one two = IsFuzzyRead h one two
  IsPair pair.WriteSkew one two = IsWriteSkew h one two

  one_so : (which : Pair) (one two : ℕ) → is_pair h which one two ≡ true → IsPair which one two
  one_so pair.LostUpdate one two is = lost_so one two is
  one_so pair.ReadSkew one two is = skew_so one two is
  one_so pair.FuzzyRead one two is = fuzzy_so one two is
  one_so pair.WriteSkew one two is = write_skew_so one two is

  so_one : (which : Pair) (one two : ℕ) → IsPair which one two → is_pair h which one two ≡ true
  so_one pair.LostUpdate one two is = so_lost one two is
  so_one pair.ReadSkew one two is = so_skew one two is
  so_one pair.FuzzyRead one two is = so_fuzzy one two is
  so_one pair.WriteSkew one two is = so_write_skew one two is

-- what holds of some element, where another thing follows from it
pub any_so : {X : Type 0} (P Q : X → Type 0) (xs : List X) → ((x : X) → P x → Q x) → Any P xs → Any Q xs
any_so P Q xs so (k, x, lt, is, holds) = (k, x, lt, is, so x holds)

-- neighbours in a cycle
module _ (h : History) (which : Pair) (walk : List Edge) where
  neighbours_so : has_pair h which walk ≡ true → HasPair (IsPair h which) walk
  neighbours_so is =
      any_so (λ e. is_neighbour h which e ≡ true) (λ e. IsPair h which e.from e.to ⊎ IsPair h which e.to e.from) walk
      (λ e found.
      elim (or_cases (is_pair h which e.from e.to) (is_pair h which e.to e.from) found) [ inl there ↦ inl (one_so h which e.from e.to there) | inr back ↦ inr (one_so h which e.to e.from back) ])
      (Any-from_list_any (is_neighbour h which) walk is)

  so_neighbours : HasPair (IsPair h which) walk → has_pair h which walk ≡ true
  so_neighbours some =
      list_any-from_Any (is_neighbour h which) walk
      (any_so (λ e. IsPair h which e.from e.to ⊎ IsPair h which e.to e.from) (λ e. is_neighbour h which e ≡ true) walk
      (λ e found. elim found [
        | inl there ↦ or_left (is_pair h which e.from e.to) (is_pair h which e.to e.from) (so_one h which e.from e.to there)
        | inr back ↦ or_right (is_pair h which e.from e.to) (is_pair h which e.to e.from) (so_one h which e.to e.from back)
      ])
      some)

module _ (h : History) (walk : List Edge) where
  pub lost_update_so : has_pair h pair.LostUpdate walk ≡ true → HasPair (IsLostUpdate h) walk
  lost_update_so is = neighbours_so h pair.LostUpdate walk is

  pub so_lost_update : HasPair (IsLostUpdate h) walk → has_pair h pair.LostUpdate walk ≡ true
  so_lost_update some = so_neighbours h pair.LostUpdate walk some

  pub read_skew_so : has_pair h pair.ReadSkew walk ≡ true → HasPair (IsReadSkew h) walk
  read_skew_so is = neighbours_so h pair.ReadSkew walk is

  pub so_read_skew : HasPair (IsReadSkew h) walk → has_pair h pair.ReadSkew walk ≡ true
  so_read_skew some = so_neighbours h pair.ReadSkew walk some

  pub fuzzy_read_so : has_pair h pair.FuzzyRead walk ≡ true → HasPair (IsFuzzyRead h) walk
  fuzzy_read_so is = neighbours_so h pair.FuzzyRead walk is

  pub so_fuzzy_read : HasPair (IsFuzzyRead h) walk → has_pair h pair.FuzzyRead walk ≡ true
  so_fuzzy_read some = so_neighbours h pair.FuzzyRead walk some

  pub skewed_so : has_pair h pair.WriteSkew walk ≡ true → HasPair (IsWriteSkew h) walk
  skewed_so is = neighbours_so h pair.WriteSkew walk is

  pub so_skewed : HasPair (IsWriteSkew h) walk → has_pair h pair.WriteSkew walk ≡ true
  so_skewed some = so_neighbours h pair.WriteSkew walk some
