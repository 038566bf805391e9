-- Successors that are noted node by node.
use Rattle.std.{proofs.{Common.{◌≡◌, ◌⊎◌, inl, inr, ℕ, ◌+◌, ◌<◌, ◌≤◌, refl, sym, ap, ◌∙◌, arith, Bool, true, false, cond, List, []}, lemmas.{Bool.{eqb-true, eqb-false, cases_lt, lt-ltb, le-ltb}, List.{get_or_past}}}, specs.Prelude.{◌==◌, nat_lt}}
use Rattle.lab_order.specs.{Arrows.{Arrows, nodes_of, before}, Counts.{how_often, after, IsTransposed}}

module _ (graph : Arrows) (old : List (List ℕ)) (node : ℕ) (noted : (from to : ℕ) → how_often (after old from) to ≡ cond (nat_lt to node) (how_often (before graph to) from) 0) where
  -- one node more is noted
  pub noted_next : (new : List (List ℕ)) (row : List ℕ) → row ≡ before graph node
      → ((from to : ℕ) → how_often (after new from) to ≡ how_often (after old from) to + cond (node == to) (how_often row from) 0)
      → (from to : ℕ) → how_often (after new from) to ≡ cond (nat_lt to (node + 1)) (how_often (before graph to) from) 0
  noted_next new row is grew from to = at (node == to) refl (cases_lt to node)
    where
      beyond : (node ≡ to → ⊥) → node ≤ to → node + 1 ≤ to
      beyond other le = omega arith

      at : (b : Bool) → (node == to) ≡ b → (to < node) ⊎ (node ≤ to) → how_often (after new from) to ≡ cond (nat_lt to (node + 1)) (how_often (before graph to) from) 0
      at true q side =
          let same : node ≡ to = eqb-true node to q in
          let a : how_often (after new from) to ≡ how_often (after old from) to + cond (node == to) (how_often row from) 0 = grew from to in
          let b : how_often (after old from) to ≡ 0 = noted from to ∙ ap (λ k. cond k (how_often (before graph to) from) 0) (le-ltb to node (omega arith)) in
          let c : cond (node == to) (how_often row from) 0 ≡ how_often (before graph to) from =
          ap (λ k. cond k (how_often row from) 0) q ∙ ap (λ ns. how_often ns from) is ∙ ap (λ k. how_often (before graph k) from) same in
          let d : cond (nat_lt to (node + 1)) (how_often (before graph to) from) 0 ≡ how_often (before graph to) from =
          ap (λ k. cond k (how_often (before graph to) from) 0) (lt-ltb to (node + 1) (omega arith)) in
          omega arith
      at false q (inl lt) =
          let a : how_often (after new from) to ≡ how_often (after old from) to + cond (node == to) (how_often row from) 0 = grew from to in
          let b : how_often (after old from) to ≡ how_often (before graph to) from = noted from to ∙ ap (λ k. cond k (how_often (before graph to) from) 0) (lt-ltb to node lt) in
          let c : cond (node == to) (how_often row from) 0 ≡ 0 = ap (λ k. cond k (how_often row from) 0) q in
          let d : cond (nat_lt to (node + 1)) (how_often (before graph to) from) 0 ≡ how_often (before graph to) from =
          ap (λ k. cond k (how_often (before graph to) from) 0) (lt-ltb to (node + 1) (omega arith)) in
          omega arith
      at false q (inr le) =
          let other : node ≡ to → ⊥ = eqb-false node to q in
          let a : how_often (after new from) to ≡ how_often (after old from) to + cond (node == to) (how_often row from) 0 = grew from to in
          let b : how_often (after old from) to ≡ 0 = noted from to ∙ ap (λ k. cond k (how_often (before graph to) from) 0) (le-ltb to node le) in
          let c : cond (node == to) (how_often row from) 0 ≡ 0 = ap (λ k. cond k (how_often row from) 0) q in
          let d : cond (nat_lt to (node + 1)) (how_often (before graph to) from) 0 ≡ 0 = ap (λ k. cond k (how_often (before graph to) from) 0) (le-ltb to (node + 1) (beyond other le)) in
          omega arith

  -- where all nodes are noted, the rows are the transposition
  pub noted_all : nodes_of graph ≤ node → IsTransposed graph old
  noted_all all from to = noted from to ∙ at (cases_lt to node)
    where
      at : (to < node) ⊎ (node ≤ to) → cond (nat_lt to node) (how_often (before graph to) from) 0 ≡ how_often (before graph to) from
      at (inl lt) = ap (λ k. cond k (how_often (before graph to) from) 0) (lt-ltb to node lt)
      at (inr le) = ap (λ k. cond k (how_often (before graph to) from) 0) (le-ltb to node le) ∙ sym (ap (λ ns. how_often ns from) (get_or_past graph to [] (omega arith)))
