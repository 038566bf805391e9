-- The dependencies of two sound parts that fit: those of each, and some that lead from the first to the second.
use Rattle.std.{proofs.{Common.{◌≡◌, ℕ, suc, ◌<◌, ◌≤◌, ◌==◌, Bool, true, false, cond, Option, Some, None, length, ◌⊎◌, inl, inr, sym, ap, ◌∙◌, subst, arith}, lemmas.Option.{none-some, same_Some, slice_get_within}}, specs.Prelude.{slice_get}}
use Rattle.lab_table.specs.Row.{Row}
use Rattle.lab_history.specs.{History.{History}, Version.{IsCommitted, outcome_of, viewed, installers, place_in}, declared.operation.{Op.{Op}, VersionName.{VersionName, TheVariants.{Initial, Of}}}}
use Rattle.lab_deps.{specs.{Soundness.{IsSound}, Edges.{place_of, SeesPlace, Depends, IsEdge}, declared.edge.{Edge.{Edge}, Kind.{Kind, TheVariants.{Write, ItemRead, PredicateRead, ItemAnti, PredicateAnti}}}}, proofs.Places.{place_there}}
use Rattle.lab_parts.specs.{Whole.{above_all, moved, joined}, WholeEdges.{moved_edge}}
use Rattle.lab_parts.proofs.{JoinedTxns.{first_or_second, outcome_first, outcome_second, committed_below}, JoinedInstalls.{first_at, second_at}, Embeddings.{Embeds, depends_up, depends_down}, JoinedEmbeddings.{first_embeds, second_embeds}}

-- no operation sees a version behind the last
sees_within : (h : History) (n : ℕ) (op : Op) (row : Row) (v : ℕ) → SeesPlace h n op row v → v ≤ length (installers h row)
sees_within h n op row v (is_op, place) = of (viewed op row) place
  where
    of : (name : VersionName) → place_of h n row name ≡ Some v → v ≤ length (installers h row)
    of Initial e = omega (arith, same_Some 0 v e)
    of (Of m j) e =
        let w = place_there (installers h row) m v (other (m == n) (place_in (installers h row) m) e) in
        omega (arith, w.1, slice_get_within (installers h row) w.0 m w.2)
      where
        other : (t : Bool) (o : Option ℕ) → cond t None o ≡ Some v → o ≡ Some v
        other true o e = absurd (none-some v e)
        other false o e = e

module _ (a b : History) (sound : IsSound a) (fit : a.end_table ≡ b.initial) where
  -- none leads back
  none_back : (row : Row) (from to : ℕ) → IsCommitted b from → IsCommitted a to → (kind : Kind) → Depends (joined a b) kind row (moved a from) to → ⊥
  none_back row from to c_from c_to = of
    where
      e : Embeds a (joined a b) (λ n. n) (λ op. op) (λ _. 0)
      e = first_embeds a b sound

      early : (p : ℕ) → slice_get (installers (joined a b) row) p ≡ Some to → p < length (installers a row)
      early p at = slice_get_within (installers a row) p to (first_at a b row p to at (committed_below a to c_to))

      late : (p : ℕ) → slice_get (installers (joined a b) row) p ≡ Some (moved a from) → length (installers a row) ≤ p
      late p at = let w = second_at a b sound row p from at in omega (arith, w.1)

      sees_early : (op : Op) (v : ℕ) → SeesPlace (joined a b) to op row v → v ≤ length (installers a row)
      sees_early op v sees = let x = e.sees_down to op row v c_to sees in omega (arith, x.place_is, sees_within a to x.was row x.place x.sees)

      sees_late : (op : Op) (v : ℕ) → SeesPlace (joined a b) (moved a from) op row v → length (installers a row) ≤ v
      sees_late op v sees = let x = (second_embeds a b sound fit).sees_down from op row v c_from sees in omega (arith, x.place_is)

      of : (kind : Kind) → Depends (joined a b) kind row (moved a from) to → ⊥
      of Write (p, at, next) = absurd (omega (arith, late p at, early (suc p) next))
      of ItemRead (op, p, sees, lists, at) = absurd (omega (arith, late p at, sees_early op (suc p) sees))
      of PredicateRead (op, v, p, sees, below, at, c) = absurd (omega (arith, late p at, sees_early op v sees, below))
      of ItemAnti (op, v, sees, lists, at) = absurd (omega (arith, early v at, sees_late op v sees))
      of PredicateAnti (op, v, p, sees, above, at, c) = absurd (omega (arith, early p at, sees_late op v sees, above))

  -- a dependency of the first part is one of both
  pub edge_up_first : (e : Edge) → IsEdge a e → IsEdge (joined a b) e
  edge_up_first e (from, to, apart, d) = (
    outcome_first a b e.from (committed_below a e.from from) ∙ from,
    outcome_first a b e.to (committed_below a e.to to) ∙ to,
    apart,
    depends_up (first_embeds a b sound) e.row e.from e.to from to e.kind d,
  )

  -- and so is a moved one of the second
  pub edge_up_second : (e : Edge) → IsEdge b e → IsEdge (joined a b) (moved_edge a e)
  edge_up_second e (from, to, apart, d) = (
    outcome_second a b e.from ∙ from,
    outcome_second a b e.to ∙ to,
    λ same. apart (omega (arith, same)),
    depends_up (second_embeds a b sound fit) e.row e.from e.to from to e.kind d,
  )

-- a dependency that leads from the first part to the second
pub record Crosses (a b : History) (e : Edge) : Type 0 where
  pub to : ℕ
  pub to_is : e.to ≡ moved a to
  pub from_committed : IsCommitted a e.from
  pub to_committed : IsCommitted b to

-- one of the second part, moved
pub record IsMoved (a b : History) (e : Edge) : Type 0 where
  pub edge : Edge
  pub is_edge : IsEdge b edge
  pub edge_is : e ≡ moved_edge a edge

module _ (a b : History) (sound : IsSound a) (fit : a.end_table ≡ b.initial) where
  -- each dependency of both is one of the first part, a moved one of the second, or leads from the first to the second
  pub edge_down : (e : Edge) → IsEdge (joined a b) e → IsEdge a e ⊎ (IsMoved a b e ⊎ Crosses a b e)
  edge_down e (from, to, apart, d) = of (first_or_second a b e.from) (first_or_second a b e.to)
    where
      low : (n : ℕ) → n < above_all a.txns → IsCommitted (joined a b) n → IsCommitted a n
      low n less c = sym (outcome_first a b n less) ∙ c

      high : (n m : ℕ) → n ≡ moved a m → IsCommitted (joined a b) n → IsCommitted b m
      high n m is c = sym (outcome_second a b m) ∙ ap (outcome_of (joined a b)) (sym is) ∙ c

      of : (e.from < above_all a.txns) ⊎ ((m : ℕ) × (e.from ≡ moved a m)) → (e.to < above_all a.txns) ⊎ ((m : ℕ) × (e.to ≡ moved a m)) → IsEdge a e ⊎ (IsMoved a b e ⊎ Crosses a b e)
      of (inl f) (inl t) = inl (low e.from f from, low e.to t to, apart, depends_down (first_embeds a b sound) e.row e.from e.to (low e.from f from) (low e.to t to) e.kind d)
      of (inl f) (inr t) = inr (inr (record { to = t.0; to_is = t.1; from_committed = low e.from f from; to_committed = high e.to t.0 t.1 to }))
      of (inr f) (inl t) = absurd (none_back a b sound fit e.row f.0 e.to (high e.from f.0 f.1 from) (low e.to t to) e.kind (subst (λ n. Depends (joined a b) e.kind e.row n e.to) f.1 d))
      of (inr f) (inr t) =
          let c_from = high e.from f.0 f.1 from in
          let c_to = high e.to t.0 t.1 to in
          let there : Depends (joined a b) e.kind e.row (moved a f.0) (moved a t.0) = subst (λ n. Depends (joined a b) e.kind e.row (moved a f.0) n) t.1 (subst (λ n. Depends (joined a b) e.kind e.row n e.to) f.1 d) in
          inr (inl (record {
            edge = record { from = f.0; to = t.0; kind = e.kind; row = e.row };
            is_edge = (c_from, c_to, λ same. apart (f.1 ∙ ap (moved a) same ∙ sym t.1), depends_down (second_embeds a b sound fit) e.row f.0 t.0 c_from c_to e.kind there);
            edge_is = λ i. record { from = f.1 i; to = t.1 i; kind = e.kind; row = e.row };
          }))

  -- the same, with the numbers that it leads between where it leads to a later part
  pub edges_joined : (e : Edge) → IsEdge (joined a b) e → IsEdge a e ⊎ (((d : Edge) × IsEdge b d × (e ≡ moved_edge a d)) ⊎ ((e.from < above_all a.txns) × (above_all a.txns ≤ e.to)))
  edges_joined e is_edge = elim (edge_down e is_edge) [
    | inl x ↦ inl x
    | inr (inl x) ↦ inr (inl (x.edge, x.is_edge, x.edge_is))
    | inr (inr x) ↦ inr (inr (committed_below a e.from x.from_committed, omega (arith, x.to_is)))
  ]

-- the ends of a part's dependency are below those behind it
pub ends_below : (a : History) (e : Edge) → IsEdge a e → (e.from < above_all a.txns) × (e.to < above_all a.txns)
ends_below a e (from, to, apart, d) = (committed_below a e.from from, committed_below a e.to to)
