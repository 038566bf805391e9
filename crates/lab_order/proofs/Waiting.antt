-- How many predecessors nodes wait for, while nodes are placed.
use Rattle.std.proofs.{Common.{◌≡◌, ◌⊎◌, inl, inr, ℕ, ◌+◌, ◌-◌, ◌<◌, refl, sym, ap, subst, ◌∙◌, arith, Bool, true, false, cond, not, ◌&&◌, ◌≤◌, List, [], length, get_or, set}, lemmas.{Bool.{eqb-true, eq-eqb, both_ways, cases_lt, lt-ltb, le-ltb, ltb-true}, List.{get_or_past}}}
use Rattle.std.specs.{Prelude.{◌==◌, nat_lt}, List.{All, count_by}}
use Rattle.lab_order.{specs.{Arrows.{Arrows, nodes_of, before}, Placing.{is_marked, IsFree}, Counts.{how_often, after, IsTransposed, waits_of}}, proofs.{Writes.{set_read}, MarkedCounts.{one_if, none_below, none_counted, all_marked, stands_counted, waits_less, all_counted, not_again, becomes}}}

-- how many predecessors of a node aren't placed
abbrev pub unplaced_before : Arrows → List Bool → ℕ → ℕ
unplaced_before graph placed node = count_by (λ n. not (is_marked placed n)) (before graph node)

-- a node that isn't placed and waits for none
abbrev pub is_due : List Bool → List ℕ → ℕ → Bool
is_due placed waits node = not (is_marked placed node) && (nat_lt node (length waits) && waits_of waits node == 0)

-- each node waits for its unplaced predecessors, and the free nodes are exactly those that are due, each once
pub record IsCounted (graph : Arrows) (placed : List Bool) (waits free : List ℕ) : Type 0 where
  pub size : length waits ≡ nodes_of graph
  pub counts : (node : ℕ) → waits_of waits node ≡ unplaced_before graph placed node
  pub done : (node : ℕ) → is_marked placed node ≡ true → waits_of waits node ≡ 0
  pub listed : (node : ℕ) → how_often free node ≡ cond (is_due placed waits node) 1 0

-- before the first node is placed
pub counted_first : (graph : Arrows) (placed : List Bool) (waits free : List ℕ) → length waits ≡ nodes_of graph → ((n : ℕ) → is_marked placed n ≡ false)
    → ((n : ℕ) → waits_of waits n ≡ length (before graph n))
    → ((n : ℕ) → how_often free n ≡ one_if (nat_lt n (length waits) && waits_of waits n == 0)) → IsCounted graph placed waits free
counted_first graph placed waits free size bare counts frees = record {
  size = size;
  counts = λ n. counts n ∙ sym (all_counted placed bare (before graph n));
  done = λ n m. absurd (both_ways _ (bare n) m);
  listed = λ n. frees n ∙ ap (λ b. one_if (not b && (nat_lt n (length waits) && waits_of waits n == 0))) (sym (bare n));
}

module _ (graph : Arrows) (placed : List Bool) (waits free : List ℕ) (h : IsCounted graph placed waits free) where
  -- a free node is listed once
  listed_free : (node : ℕ) → IsFree graph placed node → how_often free node ≡ 1
  listed_free node is = h.listed node ∙ ap one_if due
    where
      none : waits_of waits node ≡ 0
      none = h.counts node ∙ none_counted placed (before graph node) is.ready

      due : is_due placed waits node ≡ true
      due =
          let lt : node < nodes_of graph = is.within in
          let size : length waits ≡ nodes_of graph = h.size in
          ap (λ b. not b && (nat_lt node (length waits) && waits_of waits node == 0)) is.unplaced
          ∙ ap (λ b. b && waits_of waits node == 0) (lt-ltb node (length waits) (omega arith)) ∙ eq-eqb _ 0 none

  -- where none is listed, none is free
  pub none_free : free ≡ [] → (node : ℕ) → IsFree graph placed node → ⊥
  none_free empty node is =
      let a : how_often free node ≡ 0 = ap (λ ns. how_often ns node) empty in
      let b : how_often free node ≡ 1 = listed_free node is in
      absurd (omega arith)

  -- and what is less than all that are listed isn't free
  pub none_less : (node : ℕ) → All (λ n. node ≤ n) free → (k : ℕ) → k < node → IsFree graph placed k → ⊥
  none_less node least k less is =
      let a : how_often free k ≡ 0 = none_below node k less free least in
      let b : how_often free k ≡ 1 = listed_free k is in
      absurd (omega arith)

  module _ (node : ℕ) (rest : List ℕ) (popped : (test : ℕ → Bool) → count_by test free ≡ one_if (test node) + count_by test rest) where
    one_more : (n : ℕ) → how_often free n ≡ one_if (node == n) + how_often rest n
    one_more n = popped (λ m. m == n)

    due_when : (n : ℕ) → 0 < how_often free n → is_due placed waits n ≡ true
    due_when n some = at (is_due placed waits n) refl (h.listed n)
      where
        at : (b : Bool) → is_due placed waits n ≡ b → how_often free n ≡ one_if b → is_due placed waits n ≡ true
        at true q e = q
        at false q e = absurd (omega arith)

    is_here : is_due placed waits node ≡ true
    is_here =
        let one : one_if (node == node) ≡ 1 = ap one_if (eq-eqb node node refl) in
        let e : how_often free node ≡ one_if (node == node) + how_often rest node = one_more node in
        due_when node (omega arith)

    parts : (a b c : Bool) → (not a && (b && c)) ≡ true → (a ≡ false) × (b ≡ true) × (c ≡ true)
    parts true b c q = absurd (both_ways _ refl q)
    parts false true true q = (refl, refl, refl)
    parts false true false q = absurd (both_ways _ refl q)
    parts false false c q = absurd (both_ways _ refl q)

    shown : (is_marked placed node ≡ false) × (nat_lt node (length waits) ≡ true) × ((waits_of waits node == 0) ≡ true)
    shown = parts (is_marked placed node) (nat_lt node (length waits)) (waits_of waits node == 0) is_here

    none_left : waits_of waits node ≡ 0
    none_left = eqb-true _ 0 shown.2

    -- the node that is taken out is free
    pub taken_free : IsFree graph placed node
    taken_free = record {
      within = let lt : node < length waits = ltb-true node (length waits) shown.1 in let size : length waits ≡ nodes_of graph = h.size in omega arith;
      unplaced = shown.0;
      ready = λ from arrow. all_marked placed (before graph node) from (sym (h.counts node) ∙ none_left) arrow;
    }

    module _ (rows : List (List ℕ)) (turned : IsTransposed graph rows) where
      -- its successors are nodes of the graph
      pub successors_within : (N : ℕ) → N ≡ nodes_of graph → All (λ n. n < N) (after rows node)
      successors_within N size k d lt = at (cases_lt (get_or (after rows node) k d) N)
        where
          at : (get_or (after rows node) k d < N) ⊎ (N ≤ get_or (after rows node) k d) → get_or (after rows node) k d < N
          at (inl less) = less
          at (inr past) =
              let some : 0 < how_often (after rows node) (get_or (after rows node) k d) = stands_counted (after rows node) k d lt in
              let same : how_often (after rows node) (get_or (after rows node) k d) ≡ how_often (before graph (get_or (after rows node) k d)) node = turned node (get_or (after rows node) k d) in
              let bare : how_often (before graph (get_or (after rows node) k d)) node ≡ 0 = ap (λ ns. how_often ns node) (get_or_past graph (get_or (after rows node) k d) [] (omega arith)) in
              absurd (omega arith)

      module _ (lower freed : List ℕ) (small : node < length placed) (size : length lower ≡ length waits)
          (counts : (n : ℕ) → waits_of lower n ≡ waits_of waits n - how_often (after rows node) n)
          (frees : (n : ℕ) → how_often freed n ≡ how_often rest n + one_if (nat_lt 0 (waits_of waits n) && waits_of lower n == 0)) where
        marks : (n : ℕ) → is_marked (set placed node true) n ≡ cond (node == n) true (is_marked placed n)
        marks n = set_read placed node n true false small

        counts_next : (n : ℕ) → waits_of lower n ≡ unplaced_before graph (set placed node true) n
        counts_next n =
            let a : waits_of lower n ≡ waits_of waits n - how_often (after rows node) n = counts n in
            let b : waits_of waits n ≡ unplaced_before graph placed n = h.counts n in
            let c : unplaced_before graph placed n ≡ unplaced_before graph (set placed node true) n + how_often (before graph n) node = waits_less placed node (before graph n) small shown.0 in
            let e : how_often (after rows node) n ≡ how_often (before graph n) node = turned node n in
            omega arith

        done_next : (n : ℕ) → is_marked (set placed node true) n ≡ true → waits_of lower n ≡ 0
        done_next n m = at (node == n) refl (sym (marks n) ∙ m)
          where
            at : (b : Bool) → (node == n) ≡ b → cond b true (is_marked placed n) ≡ true → waits_of lower n ≡ 0
            at true q e =
                let z : waits_of waits n ≡ 0 = ap (waits_of waits) (sym (eqb-true node n q)) ∙ none_left in
                let a : waits_of lower n ≡ waits_of waits n - how_often (after rows node) n = counts n in
                omega arith
            at false q e =
                let z : waits_of waits n ≡ 0 = h.done n e in
                let a : waits_of lower n ≡ waits_of waits n - how_often (after rows node) n = counts n in
                omega arith

        free_next : (n : ℕ) → how_often freed n ≡ one_if (is_due (set placed node true) lower n)
        free_next n =
            at (node == n) refl (is_marked placed n) refl (cases_lt n (length waits))
            ∙ ap (λ b. one_if (not b && (nat_lt n (length lower) && waits_of lower n == 0))) (sym (marks n))
          where
            at : (b : Bool) → (node == n) ≡ b → (m : Bool) → is_marked placed n ≡ m → (n < length waits) ⊎ (length waits ≤ n)
                → how_often freed n ≡ one_if (not (cond b true (is_marked placed n)) && (nat_lt n (length lower) && waits_of lower n == 0))
            at true q m p side =
                let same : node ≡ n = eqb-true node n q in
                let z : waits_of waits n ≡ 0 = ap (waits_of waits) (sym same) ∙ none_left in
                let f : how_often freed n ≡ how_often rest n + one_if (nat_lt 0 (waits_of waits n) && waits_of lower n == 0) = frees n in
                let g : one_if (nat_lt 0 (waits_of waits n) && waits_of lower n == 0) ≡ 0 = not_again (waits_of waits n) (waits_of lower n) z in
                let one : how_often free n ≡ 1 = h.listed n ∙ ap one_if (subst (λ k. is_due placed waits k ≡ true) same is_here) in
                let o : how_often free n ≡ one_if (node == n) + how_often rest n = one_more n in
                let c : one_if (node == n) ≡ 1 = ap one_if q in
                omega arith
            at false q true p side =
                let z : waits_of waits n ≡ 0 = h.done n p in
                let f : how_often freed n ≡ how_often rest n + one_if (nat_lt 0 (waits_of waits n) && waits_of lower n == 0) = frees n in
                let g : one_if (nat_lt 0 (waits_of waits n) && waits_of lower n == 0) ≡ 0 = not_again (waits_of waits n) (waits_of lower n) z in
                let none : how_often free n ≡ 0 = h.listed n ∙ ap (λ b. one_if (not b && (nat_lt n (length waits) && waits_of waits n == 0))) p in
                let o : how_often free n ≡ one_if (node == n) + how_often rest n = one_more n in
                let r : one_if (not (is_marked placed n) && (nat_lt n (length lower) && waits_of lower n == 0)) ≡ 0 =
                ap (λ b. one_if (not b && (nat_lt n (length lower) && waits_of lower n == 0))) p in
                omega arith
            at false q false p (inl lt) =
                let f : how_often freed n ≡ how_often rest n + one_if (nat_lt 0 (waits_of waits n) && waits_of lower n == 0) = frees n in
                let old : how_often free n ≡ one_if (waits_of waits n == 0)
                = h.listed n ∙ ap (λ b. one_if (not b && (nat_lt n (length waits) && waits_of waits n == 0))) p ∙ ap (λ b. one_if (b && waits_of waits n == 0)) (lt-ltb n (length waits) lt) in
                let o : how_often free n ≡ one_if (node == n) + how_often rest n = one_more n in
                let c : one_if (node == n) ≡ 0 = ap one_if q in
                let e : one_if (waits_of waits n == 0) + one_if (nat_lt 0 (waits_of waits n) && waits_of lower n == 0) ≡ one_if (waits_of lower n == 0)
                = becomes (waits_of waits n) (waits_of lower n) (how_often (after rows node) n) (counts n) in
                let r : one_if (not (is_marked placed n) && (nat_lt n (length lower) && waits_of lower n == 0)) ≡ one_if (waits_of lower n == 0)
                = ap (λ b. one_if (not b && (nat_lt n (length lower) && waits_of lower n == 0))) p ∙ ap (λ b. one_if (b && waits_of lower n == 0)) (lt-ltb n (length lower) (omega arith)) in
                omega arith
            at false q false p (inr le) =
                let z : waits_of waits n ≡ 0 = get_or_past waits n 0 le in
                let f : how_often freed n ≡ how_often rest n + one_if (nat_lt 0 (waits_of waits n) && waits_of lower n == 0) = frees n in
                let g : one_if (nat_lt 0 (waits_of waits n) && waits_of lower n == 0) ≡ 0 = not_again (waits_of waits n) (waits_of lower n) z in
                let old : how_often free n ≡ 0
                = h.listed n ∙ ap (λ b. one_if (not b && (nat_lt n (length waits) && waits_of waits n == 0))) p ∙ ap (λ b. one_if (b && waits_of waits n == 0)) (le-ltb n (length waits) le) in
                let o : how_often free n ≡ one_if (node == n) + how_often rest n = one_more n in
                let r : one_if (not (is_marked placed n) && (nat_lt n (length lower) && waits_of lower n == 0)) ≡ 0
                = ap (λ b. one_if (not b && (nat_lt n (length lower) && waits_of lower n == 0))) p ∙ ap (λ b. one_if (b && waits_of lower n == 0)) (le-ltb n (length lower) (omega arith)) in
                omega arith

        -- once it is placed and its successors wait for one fewer, the counts are right again
        pub counted_next : IsCounted graph (set placed node true) lower freed
        counted_next = record { size = size ∙ h.size; counts = counts_next; done = done_next; listed = free_next }
