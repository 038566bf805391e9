-- Cycles that an edge opens: such an edge leads back, and an edge that leads back opens one.
use Rattle.std.{proofs.Common.{◌≡◌, ℕ, ◌≤◌, Bool, true, cond, List, ◌∷◌, ◌++◌, refl, ap, subst, arith, inl, inr}, specs.Prelude.{not}}
use Rattle.std.proofs.lemmas.List.Sums.{sum_by-append, sum_by-cons}
use Rattle.lab_order.specs.{Arrows.{Arrows}, Order.{position}, Path.{Reaches}}
use Rattle.lab_history.specs.History.{History}
use Rattle.lab_deps.specs.{Edges.{IsEdge}, KindSets.{is_any, is_flow, is_anti}, KindsBetween.{KindsBetween}, declared.edge.{Edge.{Edge}, Kind.{Kind}}}
use Rattle.lab_judge.{specs.{Graphs.{Tie, IsGraphOf, IsNetOf}, Openings.{AllowsAllOrNone, IsOpenedWalk}, Phenomena.{IsWalk, IsClosedWalk, count_kind}}, proofs.{ClosedWalks.{times_are, Through, each_through, all_through, HasSuch, such, goes_back}, GraphWalks.{leads_back}, Nets.{tie_of, net_for}, SeenVersions.{at_most_one as one_at_most}}}

-- which kinds are allowed beside an anti-dependency that opens a walk
pub any_beside : (opening : Kind → Bool) → AllowsAllOrNone opening is_any
any_beside opening = inl (λ _. refl)

pub flow_beside : AllowsAllOrNone is_anti is_flow
flow_beside = inr (λ _ opened. ap not opened)

-- beside an edge that passes a test, where at most one does, there is none
none_beside : (test : Kind → Bool) (xs : List Edge) (e : Edge) (ys : List Edge) → test e.kind ≡ true → count_kind test (xs ++ e ∷ ys) ≤ 1 → count_kind test (ys ++ xs) ≡ 0
none_beside test xs e ys passes one =
    let passing : Edge → ℕ = λ e. cond (test e.kind) 1 0 in
    omega (arith, one, sum_by-append passing xs (e ∷ ys), sum_by-cons passing e ys, ap {B = ℕ} (λ b. cond b 1 0) passes, sum_by-append passing ys xs)

-- beside the edge that opens a walk each has an allowed kind
beside : (opening allowed : Kind → Bool) → AllowsAllOrNone opening allowed → (xs : List Edge) (e : Edge) (ys : List Edge) → opening e.kind ≡ true
    → count_kind (λ k. not (allowed k)) (xs ++ e ∷ ys) ≤ 1 → Through allowed (ys ++ xs)
beside opening allowed (inl each) xs e ys opened few = each_through allowed each (ys ++ xs)
beside opening allowed (inr none) xs e ys opened few = all_through allowed (ys ++ xs) (none_beside (λ k. not (allowed k)) xs e ys (ap not (none e.kind opened)) few)

-- where nothing that ties two nodes opens a walk and leads back, there is no such walk
pub none_opened : {h : History} {net : KindsBetween} → IsNetOf h is_any net → (a opening : Kind → Bool) (graph : Arrows) → IsGraphOf a net graph → AllowsAllOrNone opening a
    → ((p q : ℕ) → Reaches graph q p → Tie opening net p q → ⊥) → (ws : List Edge) → IsOpenedWalk h opening a ws → ⊥
none_opened {h = h} {net = net} of a opening graph is apart none ws (closed, some, few) =
    let one : HasSuch opening ws = such opening ws (omega (arith, times_are opening ws, some)) in
    let back : IsEdge h one.edge × IsWalk h one.edge.to (one.rest ++ one.front) one.edge.from = goes_back h one.front one.edge one.rest (subst (IsClosedWalk h) one.parts closed) in
    none (position net.numbers one.edge.from) (position net.numbers one.edge.to)
    (leads_back (net_for a of) graph is one.edge (one.rest ++ one.front) back.1
    (beside opening a apart one.front one.edge one.rest one.passes (subst (λ es. count_kind (λ k. not (a k)) es ≤ 1) one.parts few)))
    (tie_of (net_for opening of) one.edge back.0 one.passes)

-- of an edge and others of which none passes a test, at most one does
pub at_most_one : (test : Kind → Bool) (e : Edge) (es : List Edge) → count_kind test es ≡ 0 → count_kind test (e ∷ es) ≤ 1
at_most_one test e es none = omega (arith, none, sum_by-cons (λ (e : Edge). cond (test e.kind) 1 0) e es, one_at_most (test e.kind))

-- of an edge that passes a test and others, at least one does
pub at_least_one : (test : Kind → Bool) (e : Edge) (es : List Edge) → test e.kind ≡ true → 1 ≤ count_kind test (e ∷ es)
at_least_one test e es passes = omega (arith, sum_by-cons (λ (e : Edge). cond (test e.kind) 1 0) e es, ap {B = ℕ} (λ b. cond b 1 0) passes)
