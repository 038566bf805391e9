-- Walks along edges: joined, cut, begun elsewhere, and counted by kind.
use Rattle.std.{proofs.{Common.{◌≡◌, ℕ, ◌+◌, ◌<◌, ◌≤◌, Bool, true, false, cond, List, [], ◌∷◌, ◌++◌, length, refl, sym, ap, ◌∙◌, subst, arith}, lemmas.{Bool.{not-false}, List.{append-nil, Recursion.{is_count_by}, Sorted.{IsPermutation-append_comm, sum_by-IsPermutation}}}}, specs.Prelude.{⊤, not}}
use Rattle.lab_history.specs.History.{History}
use Rattle.lab_deps.specs.{Edges.{IsEdge}, declared.edge.{Edge.{Edge}, Kind.{Kind}}}
use Rattle.lab_judge.specs.{LeastWalks.{IsTurnToLeast}, Phenomena.{IsWalk, IsClosedWalk, count_kind}}

-- how many edges have a kind that passes the test, by recursion
abbrev pub times : (Kind → Bool) → List Edge → ℕ
times test [] = 0
times test (e ∷ es) = cond (test e.kind) (1 + times test es) (times test es)

pub times_are : (test : Kind → Bool) (es : List Edge) → times test es ≡ count_kind test es
times_are test es = is_count_by (times test) (λ e. test e.kind) refl (λ _ _. refl) es

-- every edge has an allowed kind
abbrev pub Through : (Kind → Bool) → List Edge → Type 0
Through allows [] = ⊤
Through allows (e ∷ es) = (allows e.kind ≡ true) × Through allows es

pub through_none : (a : Kind → Bool) (es : List Edge) → Through a es → times (λ k. not (a k)) es ≡ 0
through_none a [] t = refl
through_none a (e ∷ es) (kind, t) = ap (λ b. cond (not b) (1 + times (λ k. not (a k)) es) (times (λ k. not (a k)) es)) kind ∙ through_none a es t

-- where no edge has a forbidden kind, every edge has an allowed one
pub none_forbidden : (forbids allows : Kind → Bool) → ((k : Kind) → forbids k ≡ false → allows k ≡ true) → (es : List Edge) → times forbids es ≡ 0 → Through allows es
none_forbidden forbids allows other [] none = tt
none_forbidden forbids allows other (e ∷ es) none = at (none_forbidden forbids allows other es) (forbids e.kind) refl none
  where
    at : (times forbids es ≡ 0 → Through allows es) → (b : Bool) → forbids e.kind ≡ b → cond b (1 + times forbids es) (times forbids es) ≡ 0 → Through allows (e ∷ es)
    at rest true is n = absurd (omega arith)
    at rest false is n = (other e.kind is, rest n)

-- edges around one that passes the test
pub record HasSuch (test : Kind → Bool) (es : List Edge) : Type 0 where
  pub front : List Edge
  pub edge : Edge
  pub rest : List Edge
  pub parts : es ≡ front ++ edge ∷ rest
  pub passes : test edge.kind ≡ true

pub such : (test : Kind → Bool) (es : List Edge) → 1 ≤ times test es → HasSuch test es
such test [] some = absurd (omega arith)
such test (e ∷ es) some = at (such test es) (test e.kind) refl some
  where
    at : (1 ≤ times test es → HasSuch test es) → (b : Bool) → test e.kind ≡ b → 1 ≤ cond b (1 + times test es) (times test es) → HasSuch test (e ∷ es)
    at later true is s = record { front = []; edge = e; rest = es; parts = refl; passes = is }
    at later false is s =
        let more : HasSuch test es = later s in
        record { front = e ∷ more.front; edge = more.edge; rest = more.rest; parts = ap (λ l. e ∷ l) more.parts; passes = more.passes }

-- where every kind is allowed, so is each edge's
pub each_through : (allows : Kind → Bool) → ((k : Kind) → allows k ≡ true) → (es : List Edge) → Through allows es
each_through allows each [] = tt
each_through allows each (e ∷ es) = (each e.kind, each_through allows each es)

-- where no edge has another kind, each has an allowed one
pub all_through : (allowed : Kind → Bool) (es : List Edge) → count_kind (λ k. not (allowed k)) es ≡ 0 → Through allowed es
all_through allowed es none = none_forbidden (λ k. not (allowed k)) allowed (λ k h. not-false (allowed k) h) es (times_are (λ k. not (allowed k)) es ∙ none)

-- along edges of allowed kinds that lead upwards nothing leads back
module _ (h : History) (rank : ℕ → ℕ) (allows : Kind → Bool) (ahead : (e : Edge) → IsEdge h e → allows e.kind ≡ true → rank e.from < rank e.to) where
  rises : (from : ℕ) (es : List Edge) (to : ℕ) → IsWalk h from es to → Through allows es → rank from ≤ rank to
  rises from [] to w t = omega (arith, ap rank w)
  rises from (e ∷ es) to w t = omega (arith, ahead e w.0 t.0, ap rank w.1, rises e.to es to w.2 t.1)

  pub none_closed : (es : List Edge) → IsClosedWalk h es → Through allows es → ⊥
  none_closed [] w t = w
  none_closed (e ∷ es) w t = omega (arith, ahead e w.0 t.0, rises e.to es e.from w.2 t.1)

module _ (h : History) where
  -- two walks, one behind the other, are a walk
  pub joined : (a : ℕ) (xs : List Edge) (b : ℕ) (ys : List Edge) (c : ℕ) → IsWalk h a xs b → IsWalk h b ys c → IsWalk h a (xs ++ ys) c
  joined a [] b ys c v w = subst (λ n. IsWalk h n ys c) (sym v) w
  joined a (e ∷ xs) b ys c v w = (v.0, v.1, joined e.to xs b ys c v.2 w)

  -- a walk is cut at one of its edges
  pub cut : (a : ℕ) (xs : List Edge) (e : Edge) (ys : List Edge) (c : ℕ) → IsWalk h a (xs ++ e ∷ ys) c → IsWalk h a xs e.from × IsEdge h e × IsWalk h e.to ys c
  cut a [] e ys c w = (sym w.1, w.0, w.2)
  cut a (x ∷ xs) e ys c w =
      let rest : IsWalk h x.to xs e.from × IsEdge h e × IsWalk h e.to ys c = cut x.to xs e ys c w.2 in
      ((w.0, w.1, rest.0), rest.1, rest.2)

  -- a cycle goes from each of its edges back to where that begins
  pub goes_back : (xs : List Edge) (e : Edge) (ys : List Edge) → IsClosedWalk h (xs ++ e ∷ ys) → IsEdge h e × IsWalk h e.to (ys ++ xs) e.from
  goes_back [] e ys w = (w.0, subst (λ l. IsWalk h e.to l e.from) (sym (append-nil ys)) w.2)
  goes_back (x ∷ xs) e ys w =
      let parts : IsWalk h x.from (x ∷ xs) e.from × IsEdge h e × IsWalk h e.to ys x.from = cut x.from (x ∷ xs) e ys x.from w in
      (parts.1, joined e.to ys x.from (x ∷ xs) e.from parts.2 parts.0)

  -- an edge and a walk back are a cycle
  pub closed : (e : Edge) (back : List Edge) → IsEdge h e → IsWalk h e.to back e.from → IsClosedWalk h (e ∷ back)
  closed e back edge w = (edge, refl, w)

  -- and so is a walk that isn't empty and ends where it begins
  pub closes : (es : List Edge) (a : ℕ) → 1 ≤ length es → IsWalk h a es a → IsClosedWalk h es
  closes [] a some walk = absurd (omega (arith, some))
  closes (e ∷ es) a some (edge, from, rest) = (edge, refl, subst (λ n. IsWalk h e.to es n) (sym from) rest)

  -- a cycle may begin at any of its edges
  turned : (xs ys : List Edge) → IsClosedWalk h (xs ++ ys) → IsClosedWalk h (ys ++ xs)
  turned xs [] w = subst (IsClosedWalk h) (append-nil xs) w
  turned xs (e ∷ ys) w = let back : IsEdge h e × IsWalk h e.to (ys ++ xs) e.from = goes_back xs e ys w in closed e (ys ++ xs) back.0 back.1

  -- so is one that is turned to its least
  pub turn_closed : (round walk : List Edge) → IsTurnToLeast round walk → IsClosedWalk h round → IsClosedWalk h walk
  turn_closed round walk t w = subst (IsClosedWalk h) (sym t.turned) (turned t.front (t.first ∷ t.rest) (subst (IsClosedWalk h) t.split w))

-- and has as many edges of each kind
pub turn_counts : (test : Kind → Bool) (round walk : List Edge) → IsTurnToLeast round walk → count_kind test walk ≡ count_kind test round
turn_counts test round walk t =
    ap (count_kind test) t.turned
    ∙ sum_by-IsPermutation (λ e. cond (test e.kind) 1 0) (t.front ++ t.first ∷ t.rest) ((t.first ∷ t.rest) ++ t.front) (IsPermutation-append_comm t.front (t.first ∷ t.rest))
    ∙ ap (count_kind test) (sym t.split)
