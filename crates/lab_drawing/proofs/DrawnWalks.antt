-- In the picture of a walk that a report names each dependency has its arrow.
use Rattle.std.{proofs.{Common.{◌≡◌, ℕ, Bool, true, Option, Some, None, List, [], ◌∷◌, refl, sym, ◌∙◌, subst, inl, inr}, lemmas.{Bool.{false≢true, not-false}, List.Elements.{Contains-append_left, Contains-append_right, Contains-append_cases}}}, specs.{Prelude.{Contains, not}, List.{flat_map}}}
use Rattle.lab_table.proofs.Members.{no_member, first_member, only_member}
use Rattle.lab_history.specs.History.{History}
use Rattle.lab_deps.specs.{Edges.{IsEdge}, declared.edge.{Edge.{Edge}, Kind.{Kind, TheVariants.{Write, ItemRead, PredicateRead, ItemAnti, PredicateAnti}}}}
use Rattle.lab_judge.{specs.{Judgement.{IsExactJudgement}, Phenomena.{IsWalk, IsClosedWalk, is_write}, declared.report.Report.{Report}}, proofs.ClosedWalks.{Through, none_forbidden, times_are}}
use Rattle.lab_drawing.{specs.{ArrowLaws.{LeadsBetween, NamesWalk, DrawsArrow, DrawsWrites}, Making.{arrows_of, listed}, Sketch.{of_serial, of_finding, drawing_of}, declared.drawing.Arrow.{Arrow}}, proofs.{JudgedWalks.{is_found, is_g0}, MadeArrows.{has_arrow}}}
use Rattle.lab_reports.specs.{Phenomena.{phenomenon_name}, declared.phenomenon.Phenomenon.{Phenomenon, TheVariants.{G0}}}

-- what a member of a list makes is a member of what they all make
made_of : {X Y : Type 0} (f : X → List Y) (xs : List X) (x : X) (y : Y) → Contains xs x → Contains (f x) y → Contains (flat_map f xs) y
made_of f [] x y there made = absurd (no_member x there)
made_of f (z ∷ xs) x y there made =
    elim (Contains-append_cases (z ∷ []) xs x there) [
      | inl here ↦ Contains-append_left (f z) (flat_map f xs) y (subst (λ w. Contains (f w) y) (sym (only_member z x here)) made)
      | inr later ↦ Contains-append_right (f z) (flat_map f xs) y (made_of f xs x y later made)
    ]

-- a write after a write is of that kind
only_write : (k : Kind) → is_write k ≡ true → k ≡ Write
only_write Write is = refl
only_write ItemRead is = absurd (false≢true is)
only_write PredicateRead is = absurd (false≢true is)
only_write ItemAnti is = absurd (false≢true is)
only_write PredicateAnti is = absurd (false≢true is)

-- an edge of a walk through edges of allowed kinds has one
allowed_at : (allows : Kind → Bool) (es : List Edge) (e : Edge) → Through allows es → Contains es e → allows e.kind ≡ true
allowed_at allows [] e through there = absurd (no_member e there)
allowed_at allows (x ∷ es) e through there =
    elim (Contains-append_cases (x ∷ []) es e there) [
      | inl here ↦ subst (λ (d : Edge). allows d.kind ≡ true) (only_member x e here) through.0
      | inr later ↦ allowed_at allows es e through.1 later
    ]

module _ (h : History) where
  -- an edge of a walk is one
  edge_at : (from : ℕ) (es : List Edge) (to : ℕ) (e : Edge) → IsWalk h from es to → Contains es e → IsEdge h e
  edge_at from [] to e walk there = absurd (no_member e there)
  edge_at from (x ∷ es) to e walk there =
      elim (Contains-append_cases (x ∷ []) es e there) [
        | inl here ↦ subst (IsEdge h) (only_member x e here) walk.0
        | inr later ↦ edge_at x.to es to e walk.2 later
      ]

  -- and so is one of a cycle
  pub edge_of : (es : List Edge) (e : Edge) → IsClosedWalk h es → Contains es e → IsEdge h e
  edge_of [] e closed there = absurd closed
  edge_of (x ∷ es) e closed there = edge_at x.from (x ∷ es) x.from e closed there

  module _ (report : Report) (walk : List Edge) (exact : IsExactJudgement h report) (e : Edge) (there : Contains walk e) where
    -- the arrows of the walk are those of the drawing
    in_drawing : (asked : Option Phenomenon) (a : Arrow) → NamesWalk report asked walk → Contains (flat_map (arrows_of h) walk) a → Contains (drawing_of h report asked).arrows a
    in_drawing None a is made = subst (λ verdict. Contains (of_serial h verdict).arrows a) (sym is) made
    in_drawing (Some p) a is made = subst (λ found. Contains (of_finding h (phenomenon_name p) found).arrows a) (sym is) made

    pub is_drawn : (asked : Option Phenomenon) → NamesWalk report asked walk → DrawsArrow h (drawing_of h report asked) e
    is_drawn asked is =
        let found = is_found h report walk exact asked is in
        let arrow = has_arrow h found.installed e (edge_of walk e found.closed there) in
        let made = subst (λ o. Contains (listed o) arrow.0) (sym arrow.1) (first_member arrow.0 []) in
        (arrow.0, in_drawing asked arrow.0 is (made_of (arrows_of h) walk e arrow.0 there made), arrow.2)

    -- those of a G0 lead between two last writes
    pub is_write_drawn : NamesWalk report (Some G0) walk → DrawsWrites h (drawing_of h report (Some G0)) e
    is_write_drawn is =
        let arrow = is_drawn (Some G0) is in
        let g0 = is_g0 h report walk exact is in
        let through = none_forbidden (λ k. not (is_write k)) is_write (λ k no. not-false (is_write k) no) walk (times_are (λ k. not (is_write k)) walk ∙ g0.1) in
        let kind = only_write e.kind (allowed_at is_write walk e through there) in
        let ends = subst (λ k. LeadsBetween h e k arrow.0.from.op arrow.0.to.op) kind arrow.2.leads in
        (arrow.0, arrow.1, arrow.2, ends.0, ends.1)
