-- The least of some nodes that isn't placed, node by node.
use Rattle.std.{proofs.{Common.{◌≡◌, ◌⊎◌, inl, inr, ℕ, ◌+◌, ◌<◌, ◌≤◌, refl, sym, ap, subst, ◌∙◌, arith, Bool, true, false, List, length, get_or}, lemmas.{Bool.{both_ways, cases_lt}, List.{get_or_default}}}, specs.{Prelude.{Option, Some, None, is_some, IfSome}, List.{All, Contains}}}
use Rattle.lab_order.specs.Placing.{is_marked}

-- the least of so many nodes from the front that isn't placed, or None where all are
pub record IsLeastUnplaced (placed : List Bool) (nodes : List ℕ) (count : ℕ) (least : Option ℕ) : Type 0 where
  pub found : (n : ℕ) → least ≡ Some n → Contains nodes n × (is_marked placed n ≡ false)
  pub least_of : (n : ℕ) → least ≡ Some n → (k : ℕ) → k < count → get_or nodes k 0 < n → is_marked placed (get_or nodes k 0) ≡ true
  pub none : least ≡ None → (k : ℕ) → k < count → is_marked placed (get_or nodes k 0) ≡ true

-- a place below the next is an old one or the new one
split : (k n : ℕ) → k < n + 1 → (k < n) ⊎ (k ≡ n)
split k n lt = at (cases_lt k n)
  where
    at : (k < n) ⊎ (n ≤ k) → (k < n) ⊎ (k ≡ n)
    at (inl less) = inl less
    at (inr le) = inr (omega (arith, lt))

module _ (placed : List Bool) (nodes : List ℕ) (count : ℕ) (least : Option ℕ) (h : IsLeastUnplaced placed nodes count least) where
  -- a node that is placed changes nothing
  pub past_placed : is_marked placed (get_or nodes count 0) ≡ true → IsLeastUnplaced placed nodes (count + 1) least
  past_placed here = record {
    found = h.found;
    least_of = λ n is k lt less. one n is k less (split k count lt);
    none = λ is k lt. all is k (split k count lt);
  }
    where
      one : (n : ℕ) → least ≡ Some n → (k : ℕ) → get_or nodes k 0 < n → (k < count) ⊎ (k ≡ count) → is_marked placed (get_or nodes k 0) ≡ true
      one n is k less (inl lt) = h.least_of n is k lt less
      one n is k less (inr same) = ap (λ i. is_marked placed (get_or nodes i 0)) same ∙ here

      all : least ≡ None → (k : ℕ) → (k < count) ⊎ (k ≡ count) → is_marked placed (get_or nodes k 0) ≡ true
      all is k (inl lt) = h.none is k lt
      all is k (inr same) = ap (λ i. is_marked placed (get_or nodes i 0)) same ∙ here

  -- one that isn't is the least, if it is less
  pub past_unplaced : (node new : ℕ) → count < length nodes → node ≡ get_or nodes count 0 → is_marked placed node ≡ false → (new ≡ node) ⊎ (least ≡ Some new) → new ≤ node
      → ((n : ℕ) → least ≡ Some n → new ≤ n) → IsLeastUnplaced placed nodes (count + 1) (Some new)
  past_unplaced node new within here unplaced one below belows = record {
    found = λ n is. subst (λ m. Contains nodes m × (is_marked placed m ≡ false)) (same n is) (at one);
    least_of = λ n is k lt less. lesser k (subst (λ m. get_or nodes k 0 < m) (sym (same n is)) less) (split k count lt) least refl;
    none = λ is. absurd (both_ways _ (ap is_some is) refl);
  }
    where
      same : (n : ℕ) → Some new ≡ Some n → new ≡ n
      same n is = cc

      at : (new ≡ node) ⊎ (least ≡ Some new) → Contains nodes new × (is_marked placed new ≡ false)
      at (inl is) = subst (λ m. Contains nodes m × (is_marked placed m ≡ false)) (sym is) ((count, within, get_or_default nodes count node 0 within ∙ sym here), unplaced)
      at (inr is) = h.found new is

      lesser : (k : ℕ) → get_or nodes k 0 < new → (k < count) ⊎ (k ≡ count) → (o : Option ℕ) → least ≡ o → is_marked placed (get_or nodes k 0) ≡ true
      lesser k less (inl lt) None is = h.none is k lt
      lesser k less (inl lt) (Some n) is = let le : new ≤ n = belows n is in h.least_of n is k lt (omega arith)
      lesser k less (inr alike) o is =
          let e : get_or nodes k 0 ≡ node = ap (λ i. get_or nodes i 0) alike ∙ sym here in
          absurd (omega (arith, below, e, less))

-- past all of them it is the least
pub least_of_all : (placed : List Bool) (nodes : List ℕ) (count : ℕ) (least : Option ℕ) → IsLeastUnplaced placed nodes count least → length nodes ≤ count
    → IfSome least (λ node. All (λ n. n < node → is_marked placed n ≡ true) nodes)
least_of_all placed nodes count None h le = tt
least_of_all placed nodes count (Some n) h le = λ k d lt less.
    let e : get_or nodes k d ≡ get_or nodes k 0 = get_or_default nodes k d 0 lt in
    ap (is_marked placed) e ∙ h.least_of n refl k (omega arith) (omega arith)

-- and where there is none, all are placed
pub none_of_all : (placed : List Bool) (nodes : List ℕ) (count : ℕ) (least : Option ℕ) → IsLeastUnplaced placed nodes count least → length nodes ≤ count → least ≡ None
    → All (λ n. is_marked placed n ≡ true) nodes
none_of_all placed nodes count least h le none k d lt = ap (is_marked placed) (get_or_default nodes k d 0 lt) ∙ h.none none k (omega arith)
