-- The level of two parts, one behind the other: the lower one of theirs.
use Rattle.std.{proofs.{Common.{◌≡◌, ℕ, ◌<◌, ◌≤◌, min, Bool, true, false, cond, List, refl, arith, inl, inr}, lemmas.{List.Sums.{sum_by-le-sum_by}, Bool.{leb-true, leb-false, cases_lt}}}, specs.Prelude.{◌↔◌, not, nat_le}}
use Rattle.lab_history.specs.History.{History}
use Rattle.lab_deps.specs.{KindSets.{is_anti}, Soundness.{IsSound}, declared.edge.{Edge.{Edge}, Kind.{Kind, TheVariants.{Write, ItemRead, PredicateRead, ItemAnti, PredicateAnti}}}}
use Rattle.lab_judge.{specs.{Phenomena.{NoWalk, IsG1c, IsG2Item, IsG2, count_kind, is_write, is_item_anti, MeetsPl1, MeetsPl2, MeetsPl299, MeetsPl3, IsGrade}, declared.report.Grade.{Grade, TheVariants.{BelowPl1, Pl1, Pl2, Pl299, Pl3, Unsound}}}, proofs.Levels.{none_aborted, none_intermediate}}
use Rattle.lab_parts.{specs.{Whole.{joined}, WholeFindings.{grade_place, least_grade}}, proofs.{SplitKinds.{SplitsFree, no_g0, no_g1c, no_g2_item, no_g2}, SplitWalks.{Splits}}}

-- ---- each level is implied by those above it
-- where each kind that passes one test passes another, so many edges do
fewer : (f g : Kind → Bool) → ((k : Kind) → cond (f k) 1 0 ≤ cond (g k) 1 0) → (es : List Edge) → count_kind f es ≤ count_kind g es
fewer f g less es = sum_by-le-sum_by (λ e. cond (f e.kind) 1 0) (λ e. cond (g e.kind) 1 0) es (λ e. less e.kind)

item_is_anti : (k : Kind) → cond (is_item_anti k) 1 0 ≤ cond (is_anti k) 1 0
item_is_anti Write = omega arith
item_is_anti ItemRead = omega arith
item_is_anti PredicateRead = omega arith
item_is_anti ItemAnti = omega arith
item_is_anti PredicateAnti = omega arith

anti_is_no_write : (k : Kind) → cond (is_anti k) 1 0 ≤ cond (not (is_write k)) 1 0
anti_is_no_write Write = omega arith
anti_is_no_write ItemRead = omega arith
anti_is_no_write PredicateRead = omega arith
anti_is_no_write ItemAnti = omega arith
anti_is_no_write PredicateAnti = omega arith

none_left : (m n : ℕ) → m ≤ n → n ≡ 0 → m ≡ 0
none_left m n le is = omega (arith, le, is)

module _ (h : History) where
  to_between : MeetsPl3 h → MeetsPl299 h
  to_between m = (m.0, λ es w. m.1 es (w.0, omega (arith, w.1, fewer is_item_anti is_anti item_is_anti es)))

  to_first : MeetsPl2 h → MeetsPl1 h
  to_first m = λ es w. m.2 es (w.0, none_left (count_kind is_anti es) (count_kind (λ k. not (is_write k)) es) (fewer is_anti (λ k. not (is_write k)) anti_is_no_write es) w.1)

-- a level at a place is met from there on, and not below
abbrev Told : ℕ → Type 0 → ℕ → Type 0
Told level Meets place = (level ≤ place → Meets) × (place < level → Meets → ⊥)

met : {M : Type 0} (level place : ℕ) → level ≤ place → M → Told level M place
met level place le m = ((λ _. m), (λ less. absurd (omega (arith, le, less))))

missed : {M : Type 0} (level place : ℕ) → place < level → (M → ⊥) → Told level M place
missed level place less not = ((λ le. absurd (omega (arith, le, less))), (λ _. not))

-- what the grade of a history, if it is judged, tells of each level
abbrev Tells : History → ℕ → Type 0
Tells h place = (1 ≤ place) × Told 2 (MeetsPl1 h) place × Told 3 (MeetsPl2 h) place × Told 4 (MeetsPl299 h) place × Told 5 (MeetsPl3 h) place

tells : (h : History) (g : Grade) → IsGrade h g → Tells h (grade_place g)
tells h Pl3 is = (omega arith, met 2 5 (omega arith) (to_first h is.0), met 3 5 (omega arith) is.0, met 4 5 (omega arith) (to_between h is), met 5 5 (omega arith) is)
tells h Pl299 is = (omega arith, met 2 4 (omega arith) (to_first h is.0.0), met 3 4 (omega arith) is.0.0, met 4 4 (omega arith) is.0, missed 5 4 (omega arith) is.1)
tells h Pl2 is = (omega arith, met 2 3 (omega arith) (to_first h is.0), met 3 3 (omega arith) is.0, missed 4 3 (omega arith) is.1, missed 5 3 (omega arith) (λ m. is.1 (to_between h m)))
tells h Pl1 is = (omega arith, met 2 2 (omega arith) is.0, missed 3 2 (omega arith) is.1, missed 4 2 (omega arith) (λ m. is.1 m.0), missed 5 2 (omega arith) (λ m. is.1 m.0))
tells h BelowPl1 is =
    (omega arith, missed 2 1 (omega arith) is, missed 3 1 (omega arith) (λ m. is (to_first h m)), missed 4 1 (omega arith) (λ m. is (to_first h m.0)), missed 5 1 (omega arith) (λ m. is (to_first h m.0)))
tells h Unsound is = absurd is

-- and from that comes the grade
graded : (h : History) (g : Grade) → Tells h (grade_place g) → IsGrade h g
graded h Pl3 t = t.4.0 (omega arith)
graded h Pl299 t = (t.3.0 (omega arith), t.4.1 (omega arith))
graded h Pl2 t = (t.2.0 (omega arith), t.3.1 (omega arith))
graded h Pl1 t = (t.1.0 (omega arith), t.2.1 (omega arith))
graded h BelowPl1 t = t.1.1 (omega arith)
graded h Unsound t = let judged : 1 ≤ 0 = t.0 in absurd (omega (arith, judged))

-- the lower level is at the lower place
least_place : (g h : Grade) → grade_place (least_grade g h) ≡ min (grade_place g) (grade_place h)
least_place g h = at (nat_le (grade_place g) (grade_place h)) refl
  where
    at : (b : Bool) → nat_le (grade_place g) (grade_place h) ≡ b → grade_place (cond b g h) ≡ min (grade_place g) (grade_place h)
    at true is = let le : grade_place g ≤ grade_place h = leb-true (grade_place g) (grade_place h) is in omega (arith, le)
    at false is = let less : grade_place h < grade_place g = leb-false (grade_place g) (grade_place h) is in omega (arith, less)

-- what both meet together where each does is told at the lower place
told_least : {A B J : Type 0} (level p q least : ℕ) → J ↔ (A × B) → least ≡ min p q → Told level A p → Told level B q → Told level J least
told_least level p q least both is a b = (
  (λ le. both.1 (a.0 (omega (arith, is, le)), b.0 (omega (arith, is, le)))),
  (λ less j. elim (cases_lt p level) [
    | inl low ↦ a.1 low (both.0 j).0
    | inr le ↦ b.1 (omega (arith, is, less, le)) (both.0 j).1
  ]),
)

module _ (a b : History) (splits : Splits a b) (first : IsSound a) (second : IsSound b) (whole : IsSound (joined a b)) where
  -- ---- two sound parts meet a level where each does
  meets_second : SplitsFree MeetsPl2 a b
  meets_second =
      let free : SplitsFree (λ h. NoWalk (IsG1c h)) a b = no_g1c a b splits in (
        (λ m. let parts : NoWalk (IsG1c a) × NoWalk (IsG1c b) = free.0 m.2 in ((none_aborted a first, none_intermediate a first, parts.0), (none_aborted b second, none_intermediate b second, parts.1))),
        (λ m. (none_aborted (joined a b) whole, none_intermediate (joined a b) whole, free.1 (m.0.2, m.1.2))),
      )

  -- with a kind of walk besides
  meets_more : (Free : History → Type 0) → SplitsFree Free a b → SplitsFree (λ h. MeetsPl2 h × Free h) a b
  meets_more Free free = (
    (λ m. (((meets_second.0 m.0).0, (free.0 m.1).0), ((meets_second.0 m.0).1, (free.0 m.1).1))),
    (λ m. (meets_second.1 (m.0.0, m.1.0), free.1 (m.0.1, m.1.1))),
  )

  -- so they meet the lower one of their levels
  pub least_level : (g h : Grade) → IsGrade a g → IsGrade b h → IsGrade (joined a b) (least_grade g h)
  least_level g h is also =
      let p : Tells a (grade_place g) = tells a g is in
      let q : Tells b (grade_place h) = tells b h also in
      let least : grade_place (least_grade g h) ≡ min (grade_place g) (grade_place h) = least_place g h in
      let l : ℕ = grade_place (least_grade g h) in
      graded (joined a b) (least_grade g h) (
        judged_least (grade_place g) (grade_place h) l least p.0 q.0,
        told_least 2 (grade_place g) (grade_place h) l (no_g0 a b splits) least p.1 q.1,
        told_least 3 (grade_place g) (grade_place h) l meets_second least p.2 q.2,
        told_least 4 (grade_place g) (grade_place h) l (meets_more (λ h. NoWalk (IsG2Item h)) (no_g2_item a b splits)) least p.3 q.3,
        told_least 5 (grade_place g) (grade_place h) l (meets_more (λ h. NoWalk (IsG2 h)) (no_g2 a b splits)) least p.4 q.4,
      )
    where
      judged_least : (p q l : ℕ) → l ≡ min p q → 1 ≤ p → 1 ≤ q → 1 ≤ l
      judged_least p q l is one other = omega (arith, is, one, other)
