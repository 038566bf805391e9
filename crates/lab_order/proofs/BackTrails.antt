-- Ways back, step by step, and the cycle that closes one.
use Rattle.std.proofs.{Common.{◌≡◌, ℕ, ◌+◌, ◌<◌, ◌≤◌, refl, sym, ap, subst, ◌∙◌, arith, Bool, true, false, cond, ◌||◌, List, [], ◌∷◌, ◌++◌, take, length, get_or, set, reverse, inl, inr}, lemmas.Bool.{eqb-true, eq-eqb, both_ways, cases_lt}}
use Rattle.std.specs.{Prelude.{◌==◌, not, IsTrue}, List.{list_any, prefix_len}}
use Rattle.lab_order.specs.{Arrows.{Arrows, IsArrow}, Back.{IsBack, IsMet, IsBackCircle}, Counts.{how_often}, Least.{IsLess}, Placing.{is_marked}, Steps.{is_in}, Trails.{IsRing, IsChainBy, IsTurn, BeginsWithLeast, HasLeastFirst}}
use Rattle.lab_order.proofs.{BackCircles.{comes_on}, MarkedCounts.{one_if, counted, stands_counted}, Members.{at_is_in}, Trails.{turned_push, turned_at, closes}, Turns.{turned_count, front_count, in_front, in_turned}, Writes.{set_read}}

-- what comes back from one that is met is met
pub met_next : (graph : Arrows) (node from : ℕ) → IsMet graph node → IsBack graph from node → IsMet graph from
met_next graph node from h step = record { start = h.start; least = h.least; way = h.way ++ from ∷ []; back = comes_on IsLess (IsArrow graph) h.start h.way node from h.back step }

-- the nodes of the trail are met, and so is one more
pub met_more : (graph : Arrows) (trail new : List ℕ) (at : ℕ) → new ≡ trail ++ at ∷ [] → IsMet graph at → ((n : ℕ) → IsTrue (is_in (reverse trail) n) → IsMet graph n)
    → (n : ℕ) → IsTrue (is_in (reverse new) n) → IsMet graph n
met_more graph trail new at pushed here all n there = by (at == n) refl (ap (list_any (λ m. m == n)) (sym (turned_push trail new at pushed)) ∙ there)
  where
    by : (b : Bool) → (at == n) ≡ b → (b || is_in (reverse trail) n) ≡ true → IsMet graph n
    by true q h = subst (IsMet graph) (eqb-true at n q) here
    by false q h = all n h

-- the nodes seen are on the trail once
pub seen_once : (trail new : List ℕ) (at : ℕ) (seen : List Bool) → new ≡ trail ++ at ∷ [] → at < length seen → is_marked seen at ≡ false
    → ((n : ℕ) → how_often (reverse trail) n ≡ one_if (is_marked seen n)) → (n : ℕ) → how_often (reverse new) n ≡ one_if (is_marked (set seen at true) n)
seen_once trail new at seen pushed lt fresh once n =
    ap (λ ns. how_often ns n) (turned_push trail new at pushed) ∙ counted (λ m. m == n) at (reverse trail) ∙ by (at == n) refl ∙ ap one_if (sym (set_read seen at n true false lt))
  where
    by : (b : Bool) → (at == n) ≡ b → one_if b + how_often (reverse trail) n ≡ one_if (cond b true (is_marked seen n))
    by true q =
        let none : how_often (reverse trail) n ≡ 0 = once n ∙ ap (λ k. one_if (is_marked seen k)) (sym (eqb-true at n q)) ∙ ap one_if fresh in
        omega arith
    by false q = let e : how_often (reverse trail) n ≡ one_if (is_marked seen n) = once n in omega arith

-- what is counted is there
pub there_once : (n : ℕ) (ns : List ℕ) → how_often ns n ≡ 1 → IsTrue (is_in ns n)
there_once n [] e = absurd (omega arith)
there_once n (m ∷ ms) e = at (there_once n ms) (m == n) (sym (counted (λ k. k == n) m ms) ∙ e)
  where
    at : (how_often ms n ≡ 1 → IsTrue (is_in ms n)) → (b : Bool) → one_if b + how_often ms n ≡ 1 → (b || is_in ms n) ≡ true
    at rest true e = refl
    at rest false e = rest (omega arith)

-- before the first step
pub none_seen : (seen : List Bool) (trail : List ℕ) → trail ≡ [] → ((n : ℕ) → is_marked seen n ≡ false) → (n : ℕ) → how_often (reverse trail) n ≡ one_if (is_marked seen n)
none_seen seen trail empty bare n = ap (λ ns. how_often (reverse ns) n) empty ∙ sym (ap one_if (bare n))

pub none_met : (graph : Arrows) (trail : List ℕ) → trail ≡ [] → (n : ℕ) → IsTrue (is_in (reverse trail) n) → IsMet graph n
none_met graph trail empty n there = absurd (both_ways _ (ap (λ ns. is_in (reverse ns) n) empty) there)

-- the least of nodes of which each is there once is less than the others
first_least : (circle : List ℕ) → ((n : ℕ) → how_often circle n ≤ 1) → BeginsWithLeast circle → HasLeastFirst IsLess circle
first_least [] once first = tt
first_least (a ∷ ns) once first = λ k d lt. at (get_or ns k d) (stands_counted ns k d lt) (first k d lt)
  where
    at : (n : ℕ) → 0 < how_often ns n → a ≤ n → a < n
    at n some le = elim (cases_lt a n) [
      | inl less ↦ less
      | inr ge ↦
          let again : 0 < how_often ns a = subst (λ m. 0 < how_often ns m) (omega (arith, le, ge)) some in
          let here : one_if (a == a) ≡ 1 = ap one_if (eq-eqb a a refl) in
          absurd (omega (arith, again, here, counted (λ m. m == a) a ns, once a))
    ]

-- where a way back comes to a node of it again, this is the cycle, from whichever of its nodes it is read
pub closed_back : (graph : Arrows) (at : ℕ) (trail circle turned : List ℕ) → IsChainBy (IsBack graph) at trail → IsTrue (is_in trail at) → ((n : ℕ) → how_often trail n ≤ 1)
    → ((n : ℕ) → IsTrue (is_in trail n) → IsMet graph n) → circle ≡ take (prefix_len (λ n. not (n == at)) trail + 1) trail → IsTurn circle turned → BeginsWithLeast turned
    → IsBackCircle graph turned
closed_back graph at trail circle turned chain again once met cut (place, same) first = record {
  back = subst (IsRing (IsBack graph)) (sym same) (turned_at (IsBack graph) place circle (subst (IsRing (IsBack graph)) (sym cut) (closes (IsBack graph) trail at chain again)));
  first = first_least turned each_once first;
  met = λ k d lt. met_there (get_or turned k d) (at_is_in turned k d lt);
}
  where
    each_once : (n : ℕ) → how_often turned n ≤ 1
    each_once n =
        let a : how_often turned n ≡ how_often circle n = ap (λ ns. how_often ns n) same ∙ turned_count (λ m. m == n) place circle in
        let b : how_often (take (prefix_len (λ m. not (m == at)) trail + 1) trail) n ≤ how_often trail n = front_count (λ m. m == n) (prefix_len (λ m. not (m == at)) trail + 1) trail in
        let c : how_often circle n ≡ how_often (take (prefix_len (λ m. not (m == at)) trail + 1) trail) n = ap (λ ns. how_often ns n) cut in
        let d : how_often trail n ≤ 1 = once n in
        omega arith

    met_there : (n : ℕ) → IsTrue (is_in turned n) → IsMet graph n
    met_there n there =
        met n (in_front n (prefix_len (λ m. not (m == at)) trail + 1) trail
        (subst (λ ns. IsTrue (is_in ns n)) cut (in_turned n place circle (subst (λ ns. IsTrue (is_in ns n)) same there))))

-- what is there where it is marked, and else not, is there once at most
pub few_of : (trail : List ℕ) (seen : List Bool) → ((n : ℕ) → how_often trail n ≡ one_if (is_marked seen n)) → (n : ℕ) → how_often trail n ≤ 1
few_of trail seen once n = at (is_marked seen n) (once n)
  where
    at : (b : Bool) → how_often trail n ≡ one_if b → how_often trail n ≤ 1
    at true e = omega arith
    at false e = omega arith
