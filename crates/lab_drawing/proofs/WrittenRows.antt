-- The rows that a transaction wrote are those that one of its operations wrote.
use Rattle.std.{proofs.{Common.{◌≡◌, ◌≢◌, inl, inr, ℕ, zero, suc, ◌+◌, true, false, not, cond, Option, Some, None, List, [], ◌∷◌, map, refl, sym, ap, ◌∙◌, subst, arith}, lemmas.{Bool.{false≢true, eq-eqb, not-true, not_from_false}, Option.{none-some}, List.{Elements.{Contains-append_cases, Contains-append_left, Contains-append_right}, Folds.{Any-from_list_any}}}}, specs.{Prelude.{Contains, is_some, slice_get}, FinMap.{find, entries, get-entries}}}
use Rattle.lab_table.{specs.{Row.{Row, row_cmp, row_eq, row_test}, Table.{State}}, proofs.{Maps.{same_row, row_eq_self, tested_apart, tests_itself}, Members.{no_member, first_member, later_member, only_member}}}
use Rattle.lab_history.{specs.{History.{History}, Version.{ops_of, last_write, is_at, WritesAt}, declared.operation.Op.{Op}}, proofs.Greatest.{none_is_written, last_is_greatest}}
use Rattle.lab_drawing.specs.Anomalies.{Wrote}
use Rattle.lab_drawing.specs.Written.{is_last, last_rows, rows_along, rows_by, is_beside, has_two}
use Rattle.lab_drawing.proofs.Orderables.{passed, kept, some_passes}

-- the rows of entries are those at which something is found
named : (es : List (Row × State)) (row : Row) → Contains (map (λ (e : Row × State). e.0) es) row → is_some (find row_cmp row es) ≡ true
named [] row there = absurd (no_member row there)
named (d ∷ es) row there =
    elim (row_eq row d.0) as (λ b. row_eq row d.0 ≡ b → is_some (cond b (Some d.1) (find row_cmp row es)) ≡ true) [
      | true ↦ λ _. refl
      | false ↦ λ apart. elim (Contains-append_cases (d.0 ∷ []) (map (λ (e : Row × State). e.0) es) row there) [
        | inl here ↦ absurd (false≢true (sym apart ∙ subst (λ r. row_eq row r ≡ true) (sym (only_member d.0 row here)) (row_eq_self row)))
        | inr later ↦ named es row later
      ]
    ] refl

so_named : (es : List (Row × State)) (row : Row) → is_some (find row_cmp row es) ≡ true → Contains (map (λ (e : Row × State). e.0) es) row
so_named [] row some = absurd (false≢true some)
so_named (d ∷ es) row some =
    elim (row_eq row d.0) as (λ b. row_eq row d.0 ≡ b → is_some (cond b (Some d.1) (find row_cmp row es)) ≡ true → Contains (map (λ (e : Row × State). e.0) (d ∷ es)) row) [
      | true ↦ λ same _. subst (λ r. Contains (map (λ (e : Row × State). e.0) (d ∷ es)) r) (sym (same_row row d.0 same)) (first_member d.0 (map (λ (e : Row × State). e.0) es))
      | false ↦ λ _ rest. later_member d.0 (map (λ (e : Row × State). e.0) es) row (so_named es row rest)
    ] refl some

module _ (h : History) (n : ℕ) where
  -- a row among those of some operations is written by one of them
  along_so : (before : ℕ) (ops : List Op) (row : Row) → Contains (rows_along h n before ops) row → (k : ℕ) × WritesAt ops k row
  along_so before [] row there = absurd (no_member row there)
  along_so before (op ∷ ops) row there = elim (Contains-append_cases (last_rows h n (before + 1) op) (rows_along h n (before + 1) ops) row there) [
    | inl here ↦
        let is : Contains (map (λ (e : Row × State). e.0) (entries op.writes)) row = (passed (is_last h n (before + 1)) (map (λ (e : Row × State). e.0) (entries op.writes)) row here).0 in
        (1, (op, refl, ap is_some (get-entries op.writes row) ∙ named (entries op.writes) row is))
    | inr later ↦ next (along_so (before + 1) ops row later)
  ]
    where
      next : (k : ℕ) × WritesAt ops k row → (k : ℕ) × WritesAt (op ∷ ops) k row
      next (zero, (o, at, wrote)) = absurd (none-some o at)
      next (suc k, (o, at, wrote)) = (suc (suc k), (o, at, wrote))

  pub member_wrote : (row : Row) → Contains (rows_by h n) row → Wrote h n row
  member_wrote row there = along_so 0 (ops_of h n) row there

  -- a row that an operation is the last to write is among them
  at_along : (before i : ℕ) (ops : List Op) (op : Op) (row : Row) → slice_get ops i ≡ Some op → Contains (last_rows h n (before + suc i) op) row → Contains (rows_along h n before ops) row
  at_along before i [] op row at there = absurd (none-some op at)
  at_along before zero (o ∷ ops) op row at there =
      let same : o ≡ op = some_same o op at in
      Contains-append_left (last_rows h n (before + 1) o) (rows_along h n (before + 1) ops) row (subst (λ p. Contains (last_rows h n (before + 1) p) row) (sym same) there)
    where
      some_same : (a b : Op) → Some a ≡ Some b → a ≡ b
      some_same a b e = cc
  at_along before (suc i) (o ∷ ops) op row at there =
      let shifted : before + suc (suc i) ≡ before + 1 + suc i = omega arith in
      Contains-append_right (last_rows h n (before + 1) o) (rows_along h n (before + 1) ops) row
      (at_along (before + 1) i ops op row at (subst (λ k. Contains (last_rows h n k op) row) shifted there))

  last_there : (row : Row) (o : Option ℕ) → last_write (ops_of h n) row ≡ o → Wrote h n row → Contains (rows_by h n) row
  last_there row None is (k, at) = absurd (none_is_written (ops_of h n) row is k at)
  last_there row (Some l) is wrote = at_last l is (last_is_greatest (ops_of h n) row l is).0
    where
      at_last : (l : ℕ) → last_write (ops_of h n) row ≡ Some l → WritesAt (ops_of h n) l row → Contains (rows_by h n) row
      at_last zero is (op, at, wrote) = absurd (none-some op at)
      at_last (suc i) is (op, at, wrote) =
          let number : 0 + suc i ≡ suc i = omega arith in
          let last : is_last h n (suc i) row ≡ true = ap (λ o. is_at o (suc i)) is ∙ eq-eqb (suc i) (suc i) refl in
          at_along 0 i (ops_of h n) op row at
          (subst (λ k. Contains (last_rows h n k op) row) (sym number)
          (kept (is_last h n (suc i)) (map (λ (e : Row × State). e.0) (entries op.writes)) row (so_named (entries op.writes) row (sym (ap is_some (get-entries op.writes row)) ∙ wrote)) last))

  pub wrote_member : (row : Row) → Wrote h n row → Contains (rows_by h n) row
  wrote_member row wrote = last_there row (last_write (ops_of h n) row) refl wrote

-- rows that a test keeps apart are two
apart_so : (x y : Row) → not (row_test x y) ≡ true → x ≢ y
apart_so x y is same = false≢true (sym (not-true (row_test x y) is) ∙ subst (λ z. row_test x z ≡ true) same (tests_itself x))

-- one of some rows, and another one of others
pub two_so : (ones others : List Row) → has_two ones others ≡ true → (x y : Row) × (x ≢ y) × Contains ones x × Contains others y
two_so ones others is =
    let one = Any-from_list_any (is_beside others) ones is in
    let x = one.1 in
    let other = Any-from_list_any (λ y. not (row_test x y)) others one.4 in
    (x, other.1, apart_so x other.1 other.4, (one.0, one.2, one.3), (other.0, other.2, other.3))

pub so_two : (ones others : List Row) (x y : Row) → x ≢ y → Contains ones x → Contains others y → has_two ones others ≡ true
so_two ones others x y apart one other =
    some_passes (is_beside others) ones x one (some_passes (λ z. not (row_test x z)) others y other (not_from_false (row_test x y) (tested_apart x y apart)))
