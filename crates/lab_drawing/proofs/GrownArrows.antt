-- Arrows that are added to a graph one after another.
use Rattle.std.{proofs.{Common.{◌≡◌, ℕ, ◌+◌, ◌==◌, Bool, true, false, not, ◌&&◌, ◌||◌, List, [], ◌∷◌, length, refl, sym, ap, ◌∙◌, subst}, lemmas.Bool.{and_parts, eqb-true}}, specs.{Prelude.{nat_lt, slice_index}, List.{list_any}}}
use Rattle.lab_history.specs.History.{History}
use Rattle.lab_order.specs.Arrows.{Arrows, nodes_of, has_arrow, before}
use Rattle.lab_drawing.specs.{Dependence.{committed}, Readers.{comes_before, count_of, leads, Grows, IsGraphOf}, declared.readers.Nodes.{Nodes, TheVariants.{All, Without}}}
use Rattle.lab_drawing.proofs.SameTests.{none_below, up_to, false_of}

-- ---- tests

-- one more that is looked at
one_more : (s u t on old : Bool) → (((s && t) && on) || (((u && t) && on) || old)) ≡ ((((s || u) && t) && on) || old)
one_more false u t on old = refl
one_more true u true true old = refl
one_more true true true false old = refl
one_more true false true false old = refl
one_more true true false on old = refl
one_more true false false on old = refl

one_node : (p s u on : Bool) → (((p && s) && on) || ((p && u) && on)) ≡ ((p && (s || u)) && on)
one_node false s u on = refl
one_node true false u on = refl
one_node true true u true = refl
one_node true true true false = refl
one_node true true false false = refl

-- nothing that is looked at
nothing : (t on old : Bool) → t ≡ false → old ≡ ((t && on) || old)
nothing t on old is = sym (ap (λ x. (x && on) || old) is)

module _ (h : History) (o : Nodes) where
  -- ---- a single arrow
  module _ (from to : ℕ) where
    -- where both are those, one leads as the other
    at : (a b : ℕ) (t : Bool) → (from == a && to == b) ≡ t → leads h o from to ≡ true → (t && leads h o a b) ≡ t
    at a b false is on = refl
    at a b true is on =
        let ends = and_parts (from == a) (to == b) is in
        ap (λ x. leads h o x b) (sym (eqb-true from a ends.0)) ∙ ap (leads h o from) (sym (eqb-true to b ends.1)) ∙ on

    off : (a b : ℕ) (t : Bool) → (from == a && to == b) ≡ t → leads h o from to ≡ false → (t && leads h o a b) ≡ false
    off a b false is none = refl
    off a b true is none =
        let ends = and_parts (from == a) (to == b) is in
        ap (λ x. leads h o x b) (sym (eqb-true from a ends.0)) ∙ ap (leads h o from) (sym (eqb-true to b ends.1)) ∙ none

    pub added : (old new : Arrows) → leads h o from to ≡ true → nodes_of new ≡ nodes_of old → ((a b : ℕ) → has_arrow new a b ≡ (from == a && to == b || has_arrow old a b))
        → Grows h o (λ a b. from == a && to == b) old new
    added old new on size arrows = record {
      size = size;
      arrows = λ a b. arrows a b ∙ ap (λ x. x || has_arrow old a b) (sym (at a b (from == a && to == b) refl on));
    }

    pub unchanged : (g : Arrows) → leads h o from to ≡ false → Grows h o (λ a b. from == a && to == b) g g
    unchanged g none = record {
      size = refl;
      arrows = λ a b. sym (ap (λ x. x || has_arrow g a b) (off a b (from == a && to == b) refl none));
    }

  -- ---- the arrows to a node
  pub none_yet : (to : ℕ) (g : Arrows) → Grows h o (λ a b. nat_lt a 0 && to == b) g g
  none_yet to g = record {
    size = refl;
    arrows = λ a b. nothing (nat_lt a 0 && to == b) (leads h o a b) (has_arrow g a b) (ap (λ x. x && to == b) (none_below a));
  }

  pub next : (k to : ℕ) (g m n : Arrows) → Grows h o (λ a b. nat_lt a k && to == b) g m → Grows h o (λ a b. k == a && to == b) m n → Grows h o (λ a b. nat_lt a (k + 1) && to == b) g n
  next k to g m n first more = record {
    size = more.size ∙ first.size;
    arrows = λ a b.
        more.arrows a b ∙ ap (λ x. ((k == a && to == b) && leads h o a b) || x) (first.arrows a b) ∙ one_more (k == a) (nat_lt a k) (to == b) (leads h o a b) (has_arrow g a b)
        ∙ ap (λ x. ((x && to == b) && leads h o a b) || has_arrow g a b) (up_to k a);
  }

  pub as_many : (k count to : ℕ) (g n : Arrows) → k ≡ count → Grows h o (λ a b. nat_lt a k && to == b) g n → Grows h o (λ a b. nat_lt a count && to == b) g n
  as_many k count to g n same grown = subst (λ x. Grows h o (λ a b. nat_lt a x && to == b) g n) same grown

  -- ---- all arrows
  -- those to the first nodes
  abbrev pub HasFirst : ℕ → ℕ → Arrows → Type 0
  HasFirst count to g = (a b : ℕ) → has_arrow g a b ≡ ((nat_lt a count && nat_lt b to) && leads h o a b)

  pub bare : (count : ℕ) (g : Arrows) → ((a b : ℕ) → has_arrow g a b ≡ false) → HasFirst count 0 g
  bare count g none a b = none a b ∙ sym (ap (λ x. x && leads h o a b) (false_of (nat_lt a count) (nat_lt b 0) (none_below b)))

  pub one_node_more : (count k : ℕ) (g n : Arrows) → HasFirst count k g → Grows h o (λ a b. nat_lt a count && k == b) g n → HasFirst count (k + 1) n
  one_node_more count k g n first more a b =
      more.arrows a b ∙ ap (λ x. ((nat_lt a count && k == b) && leads h o a b) || x) (first a b) ∙ one_node (nat_lt a count) (k == b) (nat_lt b k) (leads h o a b)
      ∙ ap (λ x. (nat_lt a count && x) && leads h o a b) (up_to k b)

  pub is_graph : (count k : ℕ) (g : Arrows) → count ≡ count_of h o → k ≡ count → nodes_of g ≡ count → HasFirst count k g → IsGraphOf h o g
  is_graph count k g is all size first = record {
    size = size ∙ is;
    arrows = λ a b.
        first a b ∙ ap (λ x. (nat_lt a count && nat_lt b x) && leads h o a b) all ∙ ap (λ x. (nat_lt a x && nat_lt b x) && leads h o a b) is;
  }

-- ---- the arrows that another graph has
never : (t : Bool) → (t && false) ≡ false
never true = refl
never false = refl

-- one of some nodes was looked at
moved : (s r t on old : Bool) → (((r && t) && on) || (((s && t) && on) || old)) ≡ ((((s || r) && t) && on) || old)
moved false r t on old = refl
moved true false t on old = refl
moved true true false on old = refl
moved true true true true old = refl
moved true true true false old = refl

one_among : (s u k p on : Bool) → (s ≡ true → k ≡ p) → (((k && s) && on) || ((u && p) && on)) ≡ (((s || u) && p) && on)
one_among false u true p on same = refl
one_among false u false p on same = refl
one_among true u k p on same = ap (λ x. ((x && true) && on) || ((u && p) && on)) (same refl) ∙ twice u p on
  where
    twice : (u p on : Bool) → (((p && true) && on) || ((u && p) && on)) ≡ ((true && p) && on)
    twice u true true = refl
    twice true true false = refl
    twice false true false = refl
    twice true false on = refl
    twice false false on = refl

fits : (q p all on : Bool) → (on ≡ true → all ≡ true) → ((q && ((p && q) && all)) && on) ≡ ((p && q) && on)
fits q p all false there = never (q && ((p && q) && all)) ∙ sym (never (p && q))
fits q p all true there = ap (λ x. (q && ((p && q) && x)) && true) (there refl) ∙ both q p
  where
    both : (q p : Bool) → ((q && ((p && q) && true)) && true) ≡ ((p && q) && true)
    both true true = refl
    both true false = refl
    both false true = refl
    both false false = refl

module _ (h : History) where
  -- what is left to be looked at, and what was
  abbrev pub StaysSame : Nodes → List ℕ → ℕ → Arrows → List ℕ → Arrows → Type 0
  StaysSame o left to g among old =
      (a b : ℕ) → (((list_any (λ m. m == a) left && to == b) && leads h o a b) || has_arrow g a b) ≡ (((list_any (λ m. m == a) among && to == b) && leads h o a b) || has_arrow old a b)

  pub looked_at : (o : Nodes) (x : ℕ) (rest left : List ℕ) (to : ℕ) (g n : Arrows) (among : List ℕ) (old : Arrows) → left ≡ x ∷ rest
      → StaysSame o left to g among old → Grows h o (λ a b. x == a && to == b) g n → StaysSame o rest to n among old
  looked_at o x rest left to g n among old is so more a b =
      ap (λ y. ((list_any (λ m. m == a) rest && to == b) && leads h o a b) || y) (more.arrows a b)
      ∙ moved (x == a) (list_any (λ m. m == a) rest) (to == b) (leads h o a b) (has_arrow g a b)
      ∙ ap (λ l. ((list_any (λ m. m == a) l && to == b) && leads h o a b) || has_arrow g a b) (sym is)
      ∙ so a b

  pub all_looked_at : (o : Nodes) (left : List ℕ) (to : ℕ) (n : Arrows) (among : List ℕ) (old : Arrows) → left ≡ [] → nodes_of n ≡ nodes_of old
      → StaysSame o left to n among old → Grows h o (λ a b. list_any (λ m. m == a) among && to == b) old n
  all_looked_at o left to n among old none size so = record {
    size = size;
    arrows = λ a b. ap (λ l. ((list_any (λ m. m == a) l && to == b) && leads h o a b) || has_arrow n a b) (sym none) ∙ so a b;
  }

  module _ (n : ℕ) (all : Arrows) where
    -- the arrows to the first nodes
    abbrev pub HasAmong : ℕ → Arrows → Type 0
    HasAmong to g = (a b : ℕ) → has_arrow g a b ≡ ((nat_lt b to && has_arrow all a b) && leads h (Without n) a b)

    pub bare_among : (g : Arrows) → ((a b : ℕ) → has_arrow g a b ≡ false) → HasAmong 0 g
    bare_among g none a b = none a b ∙ sym (ap (λ x. (x && has_arrow all a b) && leads h (Without n) a b) (none_below b))

    pub one_more_among : (k : ℕ) (g new : Arrows) → HasAmong k g → Grows h (Without n) (λ a b. list_any (λ m. m == a) (before all k) && k == b) g new → HasAmong (k + 1) new
    one_more_among k g new first more a b =
        more.arrows a b ∙ ap (λ x. ((has_arrow all a k && k == b) && leads h (Without n) a b) || x) (first a b)
        ∙ one_among (k == b) (nat_lt b k) (has_arrow all a k) (has_arrow all a b) (leads h (Without n) a b) (λ same. ap (has_arrow all a) (eqb-true k b same))
        ∙ ap (λ x. (x && has_arrow all a b) && leads h (Without n) a b) (up_to k b)

    -- what comes before another node without one comes before it among all
    among_all : (a b : ℕ) → leads h (Without n) a b ≡ true → leads h All a b ≡ true
    among_all a b is =
        let x = slice_index (committed h) a in
        let y = slice_index (committed h) b in
        (and_parts (not (y == n)) (comes_before h x y) (and_parts (not (x == n)) (not (y == n) && comes_before h x y) is).1).1

    pub is_graph_without : (count k : ℕ) (g : Arrows) → IsGraphOf h All all → count ≡ count_of h (Without n) → k ≡ count → nodes_of g ≡ count → HasAmong k g → IsGraphOf h (Without n) g
    is_graph_without count k g whole is end size first = record {
      size = size ∙ is;
      arrows = λ a b.
          let limit = length (committed h) in
          first a b ∙ ap (λ x. (nat_lt b x && has_arrow all a b) && leads h (Without n) a b) (end ∙ is)
          ∙ ap (λ x. (nat_lt b limit && x) && leads h (Without n) a b) (whole.arrows a b)
          ∙ fits (nat_lt b limit) (nat_lt a limit) (leads h All a b) (leads h (Without n) a b) (among_all a b);
    }
