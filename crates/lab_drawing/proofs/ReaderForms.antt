-- The test for read-only anomalies finds them.
use Rattle.std.{proofs.{Common.{◌≡◌, ℕ, zero, suc, ◌==◌, Bool, true, false, cond, Some, None, List, [], ◌∷◌, length, refl, sym, ap, ◌∙◌, arith}, lemmas.{Bool.{false≢true, true≢false, eqb-true, and_parts, and_from}, Option.{none-some, slice_get-get_or}, List.{Elements.{All-contains}, Folds.{Any-from_list_any, list_any-from_Any}, Sums.{AllPass-from_list_all, list_all-from_AllPass}}}}, specs.{Prelude.{is_some, slice_index_or}, FinMap.{find, entries, get-entries}}}
use Rattle.lab_table.{specs.{Row.{Row, row_cmp}, Table.{State}}, proofs.{Maps.{row_eq_self}, Members.{member_at}}}
use Rattle.lab_history.specs.{History.{History}, Version.{ops_of, new_state}, declared.operation.Op.{Op}}
use Rattle.lab_deps.specs.declared.edge.Edge.{Edge}
use Rattle.lab_drawing.specs.Anomalies.{Wrote, CanBeOrderedWithout, IsReadOnlyAnomaly}
use Rattle.lab_drawing.specs.Cycles.{walk_phenomenon}
use Rattle.lab_drawing.specs.Readers.{wrote_nothing, is_read_only, some_read_only, is_g2, may_be, count_of, leads, can_order, stands_in_the_way, some_stand_in_the_way, is_in_run, is_read_only_anomaly}
use Rattle.lab_drawing.specs.declared.readers.Nodes.{TheVariants.{Points, Without}}
use Rattle.lab_drawing.proofs.{Orderables.{orders, places}, PairForms.{any_so}}

-- both tests of one behind another
both_true : (a b : Bool) → cond a b false ≡ true → (a ≡ true) × (b ≡ true)
both_true true b is = (refl, is)
both_true false b is = absurd (false≢true is)

so_both : (a b : Bool) → a ≡ true → b ≡ true → cond a b false ≡ true
so_both a b is_a is_b = ap (λ x. cond x b false) is_a ∙ is_b

-- no entries have nothing of a row
none_found : (es : List (Row × State)) (row : Row) → length es ≡ 0 → find row_cmp row es ≡ None
none_found [] row is = refl
none_found (e ∷ es) row is = absurd (omega (arith, is))

-- an operation that wrote nothing wrote no row
nothing_so : (op : Op) (row : Row) → wrote_nothing op ≡ true → is_some (new_state op row) ≡ false
nothing_so op row is = ap is_some (get-entries op.writes row ∙ none_found (entries op.writes) row (eqb-true (length (entries op.writes)) 0 is))

-- and the other way round
so_nothing : (op : Op) → ((row : Row) → is_some (new_state op row) ≡ true → ⊥) → wrote_nothing op ≡ true
so_nothing op none = at (entries op.writes) refl
  where
    at : (es : List (Row × State)) → entries op.writes ≡ es → (length es == 0) ≡ true
    at [] is = refl
    at (e ∷ es) is =
        absurd (none e.0 (ap is_some (get-entries op.writes e.0 ∙ ap (find row_cmp e.0) is ∙ ap (λ b. cond b (Some e.1) (find row_cmp e.0 es)) (row_eq_self e.0))))

module _ (h : History) where
  read_only_so : (n : ℕ) → is_read_only h n ≡ true → (row : Row) → ¬ Wrote h n row
  read_only_so n is row (zero, (op, at, wrote)) = absurd (none-some op at)
  read_only_so n is row (suc k, (op, at, wrote)) =
      let nothing : wrote_nothing op ≡ true = All-contains (λ o. wrote_nothing o ≡ true) (ops_of h n) op (AllPass-from_list_all wrote_nothing (ops_of h n) is) (member_at (ops_of h n) k op at) in
      true≢false (sym wrote ∙ nothing_so op row nothing)

  so_read_only : (n : ℕ) → ((row : Row) → ¬ Wrote h n row) → is_read_only h n ≡ true
  so_read_only n none =
      list_all-from_AllPass wrote_nothing (ops_of h n)
      (λ k d lt. so_nothing (slice_index_or (ops_of h n) k d) (λ row wrote. none row (suc k, (slice_index_or (ops_of h n) k d, slice_get-get_or (ops_of h n) k d lt, wrote))))

  -- transactions that stand in the way
  in_the_way_so : (n : ℕ) → stands_in_the_way h n ≡ true → ((row : Row) → ¬ Wrote h n row) × CanBeOrderedWithout h n
  in_the_way_so n is =
      let parts = both_true (is_read_only h n) (can_order h (Without n)) is in
      (read_only_so n parts.0, places (leads h (Without n)) (count_of h (Without n)) parts.1)

  so_in_the_way : (n : ℕ) → ((row : Row) → ¬ Wrote h n row) × CanBeOrderedWithout h n → stands_in_the_way h n ≡ true
  so_in_the_way n (none, ordered) =
      so_both (is_read_only h n) (can_order h (Without n)) (so_read_only n none) (orders (leads h (Without n)) (count_of h (Without n)) ordered)

  abbrev InTheWay : Edge → Type 0
  InTheWay e = ((row : Row) → ¬ Wrote h e.from row) × CanBeOrderedWithout h e.from

  pub read_only_anomaly_so : (walk : List Edge) → is_read_only_anomaly h walk ≡ true → IsReadOnlyAnomaly h walk
  read_only_anomaly_so walk is =
      let parts = both_true (may_be h walk) (is_in_run h walk) is in
      let may = and_parts (is_g2 (walk_phenomenon walk)) (some_read_only h walk) parts.0 in
      let more = both_true (can_order h Points) (some_stand_in_the_way h walk) parts.1 in (
        may.0,
        places (leads h Points) (count_of h Points) more.0,
        any_so (λ e. stands_in_the_way h e.from ≡ true) InTheWay walk (λ e stands. in_the_way_so e.from stands) (Any-from_list_any (λ (e : Edge). stands_in_the_way h e.from) walk more.1),
      )

  pub so_read_only_anomaly : (walk : List Edge) → IsReadOnlyAnomaly h walk → is_read_only_anomaly h walk ≡ true
  so_read_only_anomaly walk (two, placed, some) =
      so_both (may_be h walk) (is_in_run h walk)
      (and_from (is_g2 (walk_phenomenon walk)) (some_read_only h walk) two
      (list_any-from_Any (λ (e : Edge). is_read_only h e.from) walk (any_so InTheWay (λ e. is_read_only h e.from ≡ true) walk (λ e way. so_read_only e.from way.0) some)))
      (so_both (can_order h Points) (some_stand_in_the_way h walk) (orders (leads h Points) (count_of h Points) placed)
      (list_any-from_Any (λ (e : Edge). stands_in_the_way h e.from) walk (any_so InTheWay (λ e. stands_in_the_way h e.from ≡ true) walk (λ e way. so_in_the_way e.from way) some)))
