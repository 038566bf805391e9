-- A history has one level.
use Rattle.std.{proofs.{Common.{◌≡◌, ℕ, zero, suc, ◌<◌, ◌≤◌, Bool, cond, List, refl, sym, ap, ◌∙◌, arith, inl, inr}, lemmas.{List.Sums.{sum_by-le-sum_by}, Bool.{cases_lt}}}, specs.Prelude.{not}}
use Rattle.lab_history.specs.History.{History}
use Rattle.lab_deps.specs.{KindSets.{is_anti}, declared.edge.{Edge.{Edge}, Kind.{Kind, TheVariants.{Write, ItemRead, PredicateRead, ItemAnti, PredicateAnti}}}}
use Rattle.lab_judge.specs.{Phenomena.{count_kind, is_write, is_item_anti, MeetsPl1, MeetsPl2, MeetsPl299, MeetsPl3, IsGrade}, declared.report.Grade.{Grade, TheVariants.{BelowPl1, Pl1, Pl2, Pl299, Pl3, Unsound}}}
use Rattle.lab_parts.specs.WholeFindings.{grade_place}

-- ---- each level is implied by those above it
item_is_anti : (k : Kind) → cond (is_item_anti k) 1 0 ≤ cond (is_anti k) 1 0
item_is_anti Write = omega arith
item_is_anti ItemRead = omega arith
item_is_anti PredicateRead = omega arith
item_is_anti ItemAnti = omega arith
item_is_anti PredicateAnti = omega arith

anti_is_no_write : (k : Kind) → cond (is_anti k) 1 0 ≤ cond (not (is_write k)) 1 0
anti_is_no_write Write = omega arith
anti_is_no_write ItemRead = omega arith
anti_is_no_write PredicateRead = omega arith
anti_is_no_write ItemAnti = omega arith
anti_is_no_write PredicateAnti = omega arith

-- where each kind that passes one test passes another, so many edges do
fewer : (f g : Kind → Bool) → ((k : Kind) → cond (f k) 1 0 ≤ cond (g k) 1 0) → (es : List Edge) → count_kind f es ≤ count_kind g es
fewer f g less es = sum_by-le-sum_by (λ e. cond (f e.kind) 1 0) (λ e. cond (g e.kind) 1 0) es (λ e. less e.kind)

none_left : (m n : ℕ) → m ≤ n → n ≡ 0 → m ≡ 0
none_left m n le is = omega (arith, le, is)

module _ (h : History) where
  pub to_between : MeetsPl3 h → MeetsPl299 h
  to_between m = (m.0, λ es w. m.1 es (w.0, omega (arith, w.1, fewer is_item_anti is_anti item_is_anti es)))

  pub to_first : MeetsPl2 h → MeetsPl1 h
  to_first m = λ es w. m.2 es (w.0, none_left (count_kind is_anti es) (count_kind (λ k. not (is_write k)) es) (fewer is_anti (λ k. not (is_write k)) anti_is_no_write es) w.1)

  -- ---- no level is met above its own
  abbrev Misses : ℕ → Type 0
  Misses place = (1 ≤ place) × (place < 2 → MeetsPl1 h → ⊥) × (place < 3 → MeetsPl2 h → ⊥) × (place < 4 → MeetsPl299 h → ⊥) × (place < 5 → MeetsPl3 h → ⊥)

  never : (place level : ℕ) → level ≤ place → {M : Type 0} → place < level → M → ⊥
  never place level le less m = omega (arith, le, less)

  misses : (g : Grade) → IsGrade h g → Misses (grade_place g)
  misses Pl3 is = (omega arith, never 5 2 (omega arith), never 5 3 (omega arith), never 5 4 (omega arith), never 5 5 (omega arith))
  misses Pl299 is = (omega arith, never 4 2 (omega arith), never 4 3 (omega arith), never 4 4 (omega arith), λ _. is.1)
  misses Pl2 is = (omega arith, never 3 2 (omega arith), never 3 3 (omega arith), λ _. is.1, λ _ m. is.1 (to_between m))
  misses Pl1 is = (omega arith, never 2 2 (omega arith), λ _. is.1, λ _ m. is.1 m.0, λ _ m. is.1 m.0)
  misses BelowPl1 is = (omega arith, λ _. is, λ _ m. is (to_first m), λ _ m. is (to_first m.0), λ _ m. is (to_first m.0))
  misses Unsound is = absurd is

  none_above : (place : ℕ) → Misses place → (g : Grade) → IsGrade h g → place < grade_place g → ⊥
  none_above place m Pl3 is less = m.4 less is
  none_above place m Pl299 is less = m.3 less is.0
  none_above place m Pl2 is less = m.2 less is.0
  none_above place m Pl1 is less = m.1 less is.0
  none_above place m BelowPl1 is less = omega (arith, m.0, less)
  none_above place m Unsound is less = is

  one_place : (a b : Grade) → IsGrade h a → IsGrade h b → grade_place a ≡ grade_place b
  one_place a b p q = elim (cases_lt (grade_place a) (grade_place b)) [
    | inl less ↦ absurd (none_above (grade_place a) (misses a p) b q less)
    | inr le ↦ elim (cases_lt (grade_place b) (grade_place a)) [
      | inl less ↦ absurd (none_above (grade_place b) (misses b q) a p less)
      | inr also ↦ omega (arith, le, also)
    ]
  ]

-- the level at a place
graded_at : ℕ → Grade
graded_at zero = Unsound
graded_at (suc zero) = BelowPl1
graded_at (suc (suc zero)) = Pl1
graded_at (suc (suc (suc zero))) = Pl2
graded_at (suc (suc (suc (suc zero)))) = Pl299
graded_at (suc (suc (suc (suc (suc n))))) = Pl3

at_its_place : (g : Grade) → graded_at (grade_place g) ≡ g
unfolding graded_at
at_its_place Pl3 = refl
at_its_place Pl299 = refl
at_its_place Pl2 = refl
at_its_place Pl1 = refl
at_its_place BelowPl1 = refl
at_its_place Unsound = refl

-- so two levels that are right are one
pub one_level : (h : History) (a b : Grade) → IsGrade h a → IsGrade h b → a ≡ b
one_level h a b p q = sym (at_its_place a) ∙ ap graded_at (one_place h a b p q) ∙ at_its_place b
