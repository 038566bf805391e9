-- What the order of a graph says of whether its nodes can be ordered.
use Rattle.std.proofs.{Common.{◌≡◌, inl, inr, ℕ, ◌<◌, Bool, true, false, ◌&&◌, List, [], ◌∷◌, sym, ◌∙◌, subst}, lemmas.{Bool.{and_parts, and_from, ltb-true, lt-ltb}, List.Elements.{Contains-append_cases}}}
use Rattle.std.specs.Prelude.{Contains, nat_lt}
use Rattle.lab_table.proofs.Members.{no_member, only_member}
use Rattle.lab_order.specs.{Arrows.{Arrows, has_arrow, IsArrow}, Order.{position, IsOrder, IsCircle, IsOrdered}, Trails.{IsTrailBy}, declared.ordering.Ordered.{Ordered, TheVariants.{Order, Circle}}}
use Rattle.lab_drawing.specs.{Orderable.{is_orderable}, Readers.{is_order}}
use Rattle.lab_drawing.proofs.Orderables.{orders, ring_remains}

-- a graph with an arrow exactly where one of so many nodes comes before another
module _ (leads : ℕ → ℕ → Bool) (count : ℕ) (graph : Arrows) (arrows : (a b : ℕ) → has_arrow graph a b ≡ ((nat_lt a count && nat_lt b count) && leads a b)) where
  -- an arrow leads between nodes, from one that comes before the other
  arrow_so : (a b : ℕ) → has_arrow graph a b ≡ true → (a < count) × (b < count) × (leads a b ≡ true)
  arrow_so a b there =
      let parts = and_parts (nat_lt a count && nat_lt b count) (leads a b) (sym (arrows a b) ∙ there) in
      let both = and_parts (nat_lt a count) (nat_lt b count) parts.0 in
      (ltb-true a count both.0, ltb-true b count both.1, parts.1)

  so_arrow : (a b : ℕ) → a < count → b < count → leads a b ≡ true → has_arrow graph a b ≡ true
  so_arrow a b x y on =
      arrows a b ∙ and_from (nat_lt a count && nat_lt b count) (leads a b) (and_from (nat_lt a count) (nat_lt b count) (lt-ltb a count x) (lt-ltb b count y)) on

  ordered : (nodes : List ℕ) → IsOrder graph nodes → is_orderable leads count ≡ true
  ordered nodes order = orders leads count (position nodes, λ a b x y on. order.forward a b (so_arrow a b x y on))

  -- a ring of arrows is one of what comes before what
  trail_so : (from : ℕ) (xs : List ℕ) (to : ℕ) → IsTrailBy (IsArrow graph) from xs to → IsTrailBy (λ x y. leads x y ≡ true) from xs to
  trail_so from [] to arrow = (arrow_so from to arrow).2
  trail_so from (x ∷ xs) to (arrow, rest) = ((arrow_so from x arrow).2, trail_so x xs to rest)

  within : (from : ℕ) (xs : List ℕ) (to b : ℕ) → IsTrailBy (IsArrow graph) from xs to → Contains xs b → b < count
  within from [] to b trail there = absurd (no_member b there)
  within from (x ∷ xs) to b (arrow, rest) there = elim (Contains-append_cases (x ∷ []) xs b there) [
    | inl here ↦ subst (λ y. y < count) (only_member x b here) (arrow_so from x arrow).1
    | inr later ↦ within x xs to b rest later
  ]

  end_within : (from : ℕ) (xs : List ℕ) (to : ℕ) → IsTrailBy (IsArrow graph) from xs to → to < count
  end_within from [] to arrow = (arrow_so from to arrow).1
  end_within from (x ∷ xs) to (arrow, rest) = end_within x xs to rest

  circled : (nodes : List ℕ) → IsCircle graph nodes → is_orderable leads count ≡ false
  circled [] circle = absurd circle
  circled (x ∷ xs) circle =
      ring_remains leads count (x ∷ xs) (trail_so x xs x circle)
      (λ b there. elim (Contains-append_cases (x ∷ []) xs b there) [
        | inl here ↦ subst (λ y. y < count) (only_member x b here) (end_within x xs x circle)
        | inr later ↦ within x xs x b circle later
      ])

  -- what was found is an order exactly if there is one
  pub told : (found : Ordered) → IsOrdered graph found → is_order found ≡ is_orderable leads count
  told (Order nodes) is = sym (ordered nodes.items is)
  told (Circle nodes) is = sym (circled nodes.items is)
