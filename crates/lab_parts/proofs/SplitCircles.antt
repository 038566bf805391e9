-- Circles of two parts, one behind the other: each is in one of them.
use Rattle.std.proofs.{Common.{◌≡◌, ◌-◌, ◌<◌, ◌≤◌, List, [], ◌∷◌, map, refl, sym, ap, ◌∙◌, subst, arith, ◌⊎◌, inl, inr}, lemmas.Bool.{cases_lt}}
use Rattle.lab_history.specs.History.{History}
use Rattle.lab_order.specs.Trails.{IsTrailBy}
use Rattle.lab_judge.specs.{Places.{IsArrow, IsCircle}, declared.places.Point.{Point, TheVariants.{Start, Commit}}}
use Rattle.lab_parts.{specs.{Whole.{above_all, moved, joined}, WholeFindings.{NoCircle, moved_point}}, proofs.{SplitArrows.{txn_of, IsMovedArrow, first_arrow, second_arrow, each_arrow, arrow_below}, SplitKinds.{SplitsFree}, SplitWalks.{Across, Splits}}}

-- a trail of both from a moved point is one of the second part, moved
record IsTrailBehind (a b : History) (from : Point) (points : List Point) (to : Point) : Type 0 where
  points_there : List Point
  end : Point
  trail : IsTrailBy (IsArrow b) from points_there end
  points_are : points ≡ map (moved_point a) points_there
  end_is : to ≡ moved_point a end

-- moved points are the same where the points are, and have moved numbers
same_point : (a : History) (p q : Point) → moved_point a p ≡ moved_point a q → p ≡ q
same_point a (Start m) (Start n) is = let same : moved a m ≡ moved a n = ap txn_of is in ap Start (omega (arith, same))
same_point a (Commit m) (Commit n) is = let same : moved a m ≡ moved a n = ap txn_of is in ap Commit (omega (arith, same))
same_point a (Start m) (Commit n) is = absurd (cc)
same_point a (Commit m) (Start n) is = absurd (cc)

txn_moved : (a : History) (p : Point) → txn_of (moved_point a p) ≡ moved a (txn_of p)
txn_moved a (Start n) = refl
txn_moved a (Commit n) = refl

-- a point whose number isn't of the first part is a moved one
moved_from : (a : History) (p : Point) → above_all a.txns ≤ txn_of p → (was : Point) × (p ≡ moved_point a was)
moved_from a (Start n) le = (Start (n - above_all a.txns), ap Start (omega (arith, le)))
moved_from a (Commit n) le = (Commit (n - above_all a.txns), ap Commit (omega (arith, le)))

module _ (a b : History) (splits : Splits a b) where
  -- ---- trails of the parts are trails of both
  first_trail : (from : Point) (points : List Point) (to : Point) → IsTrailBy (IsArrow a) from points to → IsTrailBy (IsArrow (joined a b)) from points to
  first_trail from [] to t = first_arrow a b splits from to t
  first_trail from (p ∷ points) to t = (first_arrow a b splits from p t.0, first_trail p points to t.1)

  second_trail : (from : Point) (points : List Point) (to : Point) → IsTrailBy (IsArrow b) from points to
      → IsTrailBy (IsArrow (joined a b)) (moved_point a from) (map (moved_point a) points) (moved_point a to)
  second_trail from [] to t = second_arrow a b splits from to t
  second_trail from (p ∷ points) to t = (second_arrow a b splits from p t.0, second_trail p points to t.1)

  pub first_circle : (points : List Point) → IsCircle a points → IsCircle (joined a b) points
  first_circle [] c = c
  first_circle (p ∷ points) c = first_trail p points p c

  pub second_circle : (points : List Point) → IsCircle b points → IsCircle (joined a b) (map (moved_point a) points)
  second_circle [] c = c
  second_circle (p ∷ points) c = second_trail p points p c

  -- ---- from the second part no trail leads back
  -- an arrow from a moved point leads to a moved one
  arrow_behind : (from to : Point) → IsArrow (joined a b) (moved_point a from) to → (q : Point) × IsArrow b from q × (to ≡ moved_point a q)
  arrow_behind from to arrow = at (each_arrow a b splits (moved_point a from) to arrow)
    where
      high : txn_of (moved_point a from) < above_all a.txns → ⊥
      high less = let is : txn_of (moved_point a from) ≡ moved a (txn_of from) = txn_moved a from in omega (arith, less, is)

      at : IsArrow a (moved_point a from) to ⊎ (IsMovedArrow a b (moved_point a from) to ⊎ Across a (txn_of (moved_point a from)) (txn_of to)) → (q : Point) × IsArrow b from q × (to ≡ moved_point a q)
      at (inl first) = absurd (high (arrow_below a b splits (moved_point a from) to first))
      at (inr (inl (p, q, second, is, also))) = (q, subst (λ p. IsArrow b p q) (sym (same_point a from p is)) second, also)
      at (inr (inr across)) = absurd (high across.0)

  trail_behind : (from : Point) (points : List Point) (to : Point) → IsTrailBy (IsArrow (joined a b)) (moved_point a from) points to → IsTrailBehind a b from points to
  trail_behind from [] to t =
      let next : (q : Point) × IsArrow b from q × (to ≡ moved_point a q) = arrow_behind from to t in
      record { points_there = []; end = next.0; trail = next.1; points_are = refl; end_is = next.2 }
  trail_behind from (p ∷ points) to t =
      let next : (q : Point) × IsArrow b from q × (p ≡ moved_point a q) = arrow_behind from p t.0 in
      let rest : IsTrailBehind a b next.0 points to = trail_behind next.0 points to (subst (λ p. IsTrailBy (IsArrow (joined a b)) p points to) next.2 t.1) in
      record {
        points_there = next.0 ∷ rest.points_there;
        end = rest.end;
        trail = (next.1, rest.trail);
        points_are = ap (λ p. p ∷ points) next.2 ∙ ap (λ ps. moved_point a next.0 ∷ ps) rest.points_are;
        end_is = rest.end_is;
      }

  trail_ends_behind : (from : Point) (points : List Point) (to : Point) → above_all a.txns ≤ txn_of from → IsTrailBy (IsArrow (joined a b)) from points to → above_all a.txns ≤ txn_of to
  trail_ends_behind from points to le t =
      let was : (p : Point) × (from ≡ moved_point a p) = moved_from a from le in
      let behind : IsTrailBehind a b was.0 points to = trail_behind was.0 points to (subst (λ p. IsTrailBy (IsArrow (joined a b)) p points to) was.1 t) in
      let end : txn_of to ≡ moved a (txn_of behind.end) = ap txn_of behind.end_is ∙ txn_moved a behind.end in
      omega (arith, end)

  -- so one that ends in the first part is in it
  arrow_first : (from to : Point) → txn_of to < above_all a.txns → IsArrow (joined a b) from to → IsArrow a from to
  arrow_first from to less arrow = at (each_arrow a b splits from to arrow)
    where
      at : IsArrow a from to ⊎ (IsMovedArrow a b from to ⊎ Across a (txn_of from) (txn_of to)) → IsArrow a from to
      at (inl first) = first
      at (inr (inl (p, q, second, is, also))) = absurd (let end : txn_of to ≡ moved a (txn_of q) = ap txn_of also ∙ txn_moved a q in omega (arith, end, less))
      at (inr (inr across)) = absurd (omega (arith, across.1, less))

  trail_first : (from : Point) (points : List Point) (to : Point) → txn_of to < above_all a.txns → IsTrailBy (IsArrow (joined a b)) from points to → IsTrailBy (IsArrow a) from points to
  trail_first from [] to less t = arrow_first from to less t
  trail_first from (p ∷ points) to less t = elim (cases_lt (txn_of p) (above_all a.txns)) [
    | inl low ↦ (arrow_first from p low t.0, trail_first p points to less t.1)
    | inr le ↦ absurd (let end : above_all a.txns ≤ txn_of to = trail_ends_behind p points to le t.1 in omega (arith, end, less))
  ]

  -- a trail of the second part whose image comes back to where it begins is a circle
  close : (p was : Point) (points : List Point) → p ≡ moved_point a was → IsTrailBehind a b was points p → (ps : List Point) × IsCircle b ps × (p ∷ points ≡ map (moved_point a) ps)
  close p was points begins behind =
      let round : behind.end ≡ was = same_point a behind.end was (sym behind.end_is ∙ begins) in (
        was ∷ behind.points_there,
        subst (λ q. IsTrailBy (IsArrow b) was behind.points_there q) round behind.trail,
        ap (λ q. q ∷ points) begins ∙ ap (λ ps. moved_point a was ∷ ps) behind.points_are,
      )

  -- each circle is one of the first part, or one of the second
  pub each_circle : (points : List Point) → IsCircle (joined a b) points → IsCircle a points ⊎ ((ps : List Point) × IsCircle b ps × (points ≡ map (moved_point a) ps))
  each_circle [] c = absurd c
  each_circle (p ∷ points) c = elim (cases_lt (txn_of p) (above_all a.txns)) [
    | inl less ↦ inl (trail_first p points p less c)
    | inr le ↦ inr (let was : (q : Point) × (p ≡ moved_point a q) = moved_from a p le in
        close p was.0 points was.1 (trail_behind was.0 points p (subst (λ q. IsTrailBy (IsArrow (joined a b)) q points p) was.1 c)))
  ]

  pub no_circle : SplitsFree NoCircle a b
  no_circle = (
    (λ none. ((λ ps c. none ps (first_circle ps c)), (λ ps c. none (map (moved_point a) ps) (second_circle ps c)))),
    (λ none ps c. elim (each_circle ps c) [ inl first ↦ none.0 ps first | inr second ↦ none.1 second.0 second.1 ]),
  )
