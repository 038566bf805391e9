-- The dependencies of a run: those of its parts, and those that lead to a later part.
use Rattle.std.{proofs.{Common.{◌≡◌, ℕ, zero, suc, Some, List, [], ◌∷◌, ◌⊎◌, inl, inr, refl, sym, ap, ◌∙◌, subst, arith}, lemmas.{List.Elements.{All-head, All-tail}, Option.{none-some, same_Some}}}, specs.{Prelude.{slice_get}, List.{All}}}
use Rattle.lab_history.specs.{History.{History}, Version.{IsCommitted, outcome_of}}
use Rattle.lab_deps.specs.{Soundness.{IsSound}, Edges.{IsEdge}, declared.edge.Edge.{Edge}}
use Rattle.lab_parts.specs.{Whole.{moved, joined, whole, Fits}, WholeEdges.{moved_edge, edge_in, IsWithin, IsNumber, LeadsForward}}
use Rattle.lab_parts.proofs.{JoinedTxns.{first_or_second, outcome_first, outcome_second}, JoinedEdges.{edge_up_first, edge_up_second, edge_down, IsMoved, Crosses}, WholeSound.{whole_initial}}

-- a number of a part behind the first is one of the run, moved
later_number : (first part : History) (parts : List History) (place n m : ℕ) → m ≡ moved first n → IsNumber part parts place n → IsNumber first (part ∷ parts) (suc place) m
later_number first part parts place n m e x = record { part = x.part; is_part = x.is_part; no = x.no; committed = x.committed; number_is = e ∙ ap (moved first) x.number_is }

-- each committed transaction of a run is one of a part
pub number_of : (first : History) (parts : List History) (n : ℕ) → IsCommitted (whole first parts) n → (place : ℕ) × IsNumber first parts place n
number_of first [] n c = (0, record { part = first; is_part = refl; no = n; committed = c; number_is = refl })
number_of first (part ∷ parts) n c = elim (first_or_second first (whole part parts) n) [
  | inl less ↦ (0, record { part = first; is_part = refl; no = n; committed = sym (outcome_first first (whole part parts) n less) ∙ c; number_is = refl })
  | inr w ↦
      let there = number_of part parts w.0 (sym (outcome_second first (whole part parts) w.0) ∙ ap (outcome_of (joined first (whole part parts))) (sym w.1) ∙ c) in
      (suc there.0, later_number first part parts there.0 w.0 n w.1 there.1)
]

-- what is within the parts behind the first, or leads forward among them
later_edge : (first part : History) (parts : List History) (d e : Edge) → e ≡ moved_edge first d → IsWithin part parts d ⊎ LeadsForward part parts d → IsWithin first (part ∷ parts) e ⊎ LeadsForward first (part ∷ parts) e
later_edge first part parts d e is (inl x) = inl (record { place = suc x.place; part = x.part; is_part = x.is_part; edge = x.edge; is_edge = x.is_edge; moved_is = is ∙ ap (moved_edge first) x.moved_is })
later_edge first part parts d e is (inr x) = inr (record {
  earlier = suc x.earlier;
  later = suc x.later;
  from = later_number first part parts x.earlier d.from e.from (ap (λ (f : Edge). f.from) is) x.from;
  to = later_number first part parts x.later d.to e.to (ap (λ (f : Edge). f.to) is) x.to;
  forward = omega (arith, x.forward);
})

-- each dependency of a run is within a part, or leads to a later one
pub leads_forward : (first : History) (parts : List History) → IsSound first → All IsSound parts → Fits first parts → (e : Edge) → IsEdge (whole first parts) e
    → IsWithin first parts e ⊎ LeadsForward first parts e
leads_forward first [] sound all fits e is_edge = inl (record { place = 0; part = first; is_part = refl; edge = e; is_edge = is_edge; moved_is = refl })
leads_forward first (part ∷ parts) sound all fits e is_edge =
    of (λ d is. leads_forward part parts (All-head IsSound part parts all) (All-tail IsSound part parts all) fits.1 d is)
    (edge_down first (whole part parts) sound (fits.0 ∙ sym (whole_initial part parts)) e is_edge)
  where
    of : ((d : Edge) → IsEdge (whole part parts) d → IsWithin part parts d ⊎ LeadsForward part parts d) → IsEdge first e ⊎ (IsMoved first (whole part parts) e ⊎ Crosses first (whole part parts) e)
        → IsWithin first (part ∷ parts) e ⊎ LeadsForward first (part ∷ parts) e
    of behind (inl x) = inl (record { place = 0; part = first; is_part = refl; edge = e; is_edge = x; moved_is = refl })
    of behind (inr (inl x)) = later_edge first part parts x.edge e x.edge_is (behind x.edge x.is_edge)
    of behind (inr (inr x)) =
        let there = number_of part parts x.to x.to_committed in
        inr (record {
          earlier = 0;
          later = suc there.0;
          from = record { part = first; is_part = refl; no = e.from; committed = x.from_committed; number_is = refl };
          to = later_number first part parts there.0 x.to e.to x.to_is there.1;
          forward = omega arith;
        })

-- a dependency of a part is one of the run
edge_of : (first : History) (parts : List History) → IsSound first → All IsSound parts → Fits first parts → (place : ℕ) (part : History) (d : Edge) → slice_get (first ∷ parts) place ≡ Some part → IsEdge part d
    → IsEdge (whole first parts) (edge_in first parts place d)
edge_of first [] sound all fits zero part d at is_edge = subst (λ h. IsEdge h d) (sym (same_Some first part at)) is_edge
edge_of first [] sound all fits (suc place) part d at is_edge = absurd (none-some part at)
edge_of first (next ∷ parts) sound all fits zero part d at is_edge = edge_up_first first (whole next parts) sound (fits.0 ∙ sym (whole_initial next parts)) d (subst (λ h. IsEdge h d) (sym (same_Some first part at)) is_edge)
edge_of first (next ∷ parts) sound all fits (suc place) part d at is_edge =
    edge_up_second first (whole next parts) sound (fits.0 ∙ sym (whole_initial next parts)) (edge_in next parts place d)
    (edge_of next parts (All-head IsSound next parts all) (All-tail IsSound next parts all) fits.1 place part d at is_edge)

pub within_leads : (first : History) (parts : List History) → IsSound first → All IsSound parts → Fits first parts → (e : Edge) → IsWithin first parts e → IsEdge (whole first parts) e
within_leads first parts sound all fits e x = subst (IsEdge (whole first parts)) (sym x.moved_is) (edge_of first parts sound all fits x.place x.part x.edge x.is_part x.is_edge)
