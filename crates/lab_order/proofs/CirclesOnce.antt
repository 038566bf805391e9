-- On the cycle on the way back none is there twice.
use Rattle.std.{proofs.{Common.{◌≡◌, inl, inr, ℕ, ◌+◌, ◌<◌, ◌≤◌, refl, ap, subst, ◌∙◌, arith, Bool, true, false, List, [], ◌∷◌, ◌++◌, length, reverse}, lemmas.{Bool.{cases_order, eqb-true}, List.{reverse-append, Sums.{sum_by-append}}}}, specs.Prelude.{◌==◌, ⊤}}
use Rattle.lab_order.{specs.{Arrows.{Arrows, IsArrow}, Back.{IsBackCircle}, Counts.{how_often}, Knots.{ComesBack}, Least.{IsLess}}, proofs.{BackCircles.{IsOf, one_way, goes_round, not_again}, Least.{not_both}, MarkedCounts.{one_if, counted}}}

-- no two of a list are one
abbrev AreApart : List ℕ → Type 0
AreApart [] = ⊤
AreApart (x ∷ xs) = (IsOf x xs → ⊥) × AreApart xs

-- what isn't one of them is never there
none_of : (n : ℕ) (ms : List ℕ) → (IsOf n ms → ⊥) → how_often ms n ≡ 0
none_of n [] none = refl
none_of n (m ∷ ms) none = at (m == n) refl (none_of n ms (λ of. none (inr of)))
  where
    at : (b : Bool) → (m == n) ≡ b → how_often ms n ≡ 0 → how_often (m ∷ ms) n ≡ 0
    at true same rest = absurd (none (inl (eqb-true m n same)))
    at false other rest = omega (arith, counted (λ k. k == n) m ms, ap one_if other, rest)

-- and of those that are apart each is there once
apart_once : (ms : List ℕ) → AreApart ms → (n : ℕ) → how_often ms n ≤ 1
apart_once [] apart n = omega arith
apart_once (m ∷ ms) apart n = at (m == n) refl (apart_once ms apart.1 n)
  where
    at : (b : Bool) → (m == n) ≡ b → how_often ms n ≤ 1 → how_often (m ∷ ms) n ≤ 1
    at true same rest =
        let none : how_often ms n ≡ 0 = none_of n ms (subst (λ k. IsOf k ms → ⊥) (eqb-true m n same) apart.0) in
        omega (arith, counted (λ k. k == n) m ms, ap one_if same, none)
    at false other rest = omega (arith, counted (λ k. k == n) m ms, ap one_if other, rest)

-- read backwards a list has each as often
turned_often : (n : ℕ) (ms : List ℕ) → how_often (reverse ms) n ≡ how_often ms n
turned_often n [] = refl
turned_often n (m ∷ ms) =
    let a : how_often (reverse ms ++ m ∷ []) n ≡ how_often (reverse ms) n + how_often (m ∷ []) n = sum_by-append (λ k. one_if (k == n)) (reverse ms) (m ∷ []) in
    let b = counted (λ k. k == n) m [] in
    ap (λ l. how_often l n) (reverse-append (m ∷ []) ms) ∙ omega (arith, a, b, counted (λ k. k == n) m ms, turned_often n ms)

module _ (graph : Arrows) where
  abbrev Comes : ℕ → List ℕ → ℕ → Type 0
  Comes node way to = ComesBack IsLess (IsArrow graph) node way to

  -- behind a node of a way the rest of it leads to its end
  rest_of : (a : ℕ) (ws : List ℕ) (end x : ℕ) → Comes a (ws ++ end ∷ []) end → (IsOf end ws → ⊥) → IsOf x ws
      → (vs : List ℕ) × Comes x (vs ++ end ∷ []) end × (IsOf end vs → ⊥) × (length vs < length ws)
  rest_of a [] end x h none of = absurd of
  rest_of a (w ∷ ws) end x h none (inl is) = (ws, subst (λ k. Comes k (ws ++ end ∷ []) end) is h.1, (λ of. none (inr of)), omega arith)
  rest_of a (w ∷ ws) end x h none (inr of) = let r = rest_of w ws end x h.1 (λ of. none (inr of)) of in (r.0, r.1, r.2, omega (arith, r.3))

  -- a way passes none twice before its end
  way_apart : (a : ℕ) (ws : List ℕ) (end : ℕ) → Comes a (ws ++ end ∷ []) end → (IsOf end ws → ⊥) → AreApart ws
  way_apart a [] end h none = tt
  way_apart a (w ∷ ws) end h none = (again, way_apart w ws end h.1 (λ of. none (inr of)))
    where
      again : IsOf w ws → ⊥
      again of =
          let r = rest_of w ws end w h.1 (λ end_of. none (inr end_of)) of in
          let same : ws ≡ r.0 = one_way IsLess (IsArrow graph) cases_order not_both w end ws r.0 h.1 r.1 (λ end_of. none (inr end_of)) r.2 in
          absurd (omega (arith, ap length same, r.3))

  -- so each node of the cycle is there once
  pub circle_once : (circle : List ℕ) → IsBackCircle graph circle → (node : ℕ) → how_often circle node ≤ 1
  circle_once [] h node = absurd h.back
  circle_once (a ∷ ns) h node = at (a == node) refl
    where
      left : IsOf a (reverse ns) → ⊥
      left = not_again IsLess (IsArrow graph) cases_order not_both a ns h

      at : (b : Bool) → (a == node) ≡ b → how_often (a ∷ ns) node ≤ 1
      at true same =
          let none : how_often (reverse ns) node ≡ 0 = subst (λ k. how_often (reverse ns) k ≡ 0) (eqb-true a node same) (none_of a (reverse ns) left) in
          omega (arith, counted (λ k. k == node) a ns, ap one_if same, turned_often node ns, none)
      at false other =
          let few : how_often (reverse ns) node ≤ 1 = apart_once (reverse ns) (way_apart a (reverse ns) a (goes_round IsLess (IsArrow graph) a ns h) left) node in
          omega (arith, counted (λ k. k == node) a ns, ap one_if other, turned_often node ns, few)
