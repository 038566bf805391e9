-- The level of a run whose parts are sound and fit.
use Rattle.std.{proofs.{Common.{◌≡◌, ℕ, ◌+◌, ◌≤◌, ◌<◌, None, Bool, true, false, cond, List, [], ◌∷◌, map, refl, sym, ap, ◌∙◌, subst, arith}, lemmas.{Bool.Decides.{nat_tests}, List.Elements.{All-nil, All-cons, All-head, All-tail}}}, specs.{Prelude.{◌↔◌, nat_le, nat_lt}, List.{All, AllZip}}}
use Rattle.lab_history.specs.History.{History}
use Rattle.lab_deps.specs.Soundness.{IsSound}
use Rattle.lab_judge.specs.{Phenomena.{IsGrade}, declared.report.Grade.{Grade}}
use Rattle.lab_judge.specs.declared.report.Grade.TheVariants as grade
use Rattle.lab_parts.{specs.{Whole.{whole, Fits}, WholeFindings.{Graded, grade_place, least_grade, least_of}}, proofs.WholeFree.{whole_level}}
use Rattle.lab_chain.specs.{Chain.{Part, summary_of}, ChainLaws.{AreSound}, Levels.{level_of, level_rank, worse}, Parts.{part_summary}, Summary.{seam_at, seam_between}, declared.level.Level.{Level}}
use Rattle.lab_chain.specs.declared.level.Level.TheVariants as level
use Rattle.lab_chain.proofs.{JoinedLines.{best_last}, OneLevel.{one_level}, PartSummaries.{of_part, first_and_rest}, SoundSummaries.{IsOneWith, judges_all, none_behind, none_between}}

-- ---- levels of runs and of parts
-- the level of a part of which this is the level
grade_of : Level → Grade
grade_of level.Pl3 = grade.Pl3
grade_of level.Pl299 = grade.Pl299
grade_of level.Pl2 = grade.Pl2
grade_of level.Pl1 = grade.Pl1
grade_of level.NotJudged = grade.Unsound
grade_of level.BelowPl1 = grade.BelowPl1
grade_of level.Unsound = grade.Unsound

grade_back : (g : Grade) → grade_of (level_of g) ≡ g
unfolding grade_of
grade_back grade.Pl3 = refl
grade_back grade.Pl299 = refl
grade_back grade.Pl2 = refl
grade_back grade.Pl1 = refl
grade_back grade.BelowPl1 = refl
grade_back grade.Unsound = refl

-- the lower a level is, the worse it is: the levels of a run have one more, above the last two
abbrev Ranks : ℕ → ℕ → Type 0
Ranks place rank = (place ≤ 1 → place + rank ≡ 6) × (2 ≤ place → place + rank ≡ 5)

ranked : (g : Grade) → Ranks (grade_place g) (level_rank (level_of g))
ranked grade.Pl3 = ((λ le. omega (arith, le)), (λ le. refl))
ranked grade.Pl299 = ((λ le. omega (arith, le)), (λ le. refl))
ranked grade.Pl2 = ((λ le. omega (arith, le)), (λ le. refl))
ranked grade.Pl1 = ((λ le. omega (arith, le)), (λ le. refl))
ranked grade.BelowPl1 = ((λ le. refl), (λ le. omega (arith, le)))
ranked grade.Unsound = ((λ le. refl), (λ le. omega (arith, le)))

lower_is_worse : (p q r s : ℕ) → Ranks p r → Ranks q s → p ≤ q → r < s → ⊥
lower_is_worse p q r s a b le less = grind (arith, a.0, a.1, b.0, b.1, le, less)

higher_is_better : (p q r s : ℕ) → Ranks p r → Ranks q s → q < p → r < s
higher_is_better p q r s a b less = grind (arith, a.0, a.1, b.0, b.1, less)

-- the worse of two is that of the lower one
worse_of_two : (g h : Grade) → worse (level_of g) (level_of h) ≡ level_of (least_grade g h)
worse_of_two g h = at (nat_le (grade_place g) (grade_place h)) (nat_lt (level_rank (level_of g)) (level_rank (level_of h))) refl refl
  where
    at : (x y : Bool) → nat_le (grade_place g) (grade_place h) ≡ x → nat_lt (level_rank (level_of g)) (level_rank (level_of h)) ≡ y → cond y (level_of h) (level_of g) ≡ level_of (cond x g h)
    at true true le less = absurd (lower_is_worse (grade_place g) (grade_place h) (level_rank (level_of g)) (level_rank (level_of h)) (ranked g) (ranked h) (grind (arith, nat_tests, le)) (grind (arith, nat_tests, less)))
    at true false le less = refl
    at false true le less = refl
    at false false le less =
        let better : level_rank (level_of g) < level_rank (level_of h) = higher_is_better (grade_place g) (grade_place h) (level_rank (level_of g)) (level_rank (level_of h)) (ranked g) (ranked h) (grind (arith, nat_tests, le)) in
        absurd (grind (arith, nat_tests, less, better))

-- ---- the level of a run is made of those of its parts
-- the levels of its parts
record Levelled (ps : List Part) (first : History) (others : List History) : Type 0 where
  lowest : Grade
  graded : List Graded
  parts_are : map (λ o. o.part) graded ≡ others
  is_first : IsGrade first lowest
  are_others : All (λ o. IsGrade o.part o.level) graded
  said : (summary_of ps).level ≡ level_of (least_of lowest (map (λ o. o.level) graded))

-- where nothing is said of the seam behind a part that was judged, the level is that of the part and of those behind it
level_behind : (p : Part) (ps : List Part) (h : History) (judged : IsOneWith p h) (name : List ℕ) → seam_between (of_part p).ends (summary_of ps).ends ≡ seam_at name None
    → (summary_of (p ∷ ps)).level ≡ worse (level_of judged.0.level) (summary_of ps).level
level_behind p ps h judged name none =
    ap (λ s. s.level) (first_and_rest p ps) ∙ ap (λ s. worse (worse (of_part p).level s.level) (summary_of ps).level) none ∙ ap (λ l. worse l (summary_of ps).level) (best_last (of_part p).level)
    ∙ ap (λ o. worse (part_summary p.name o).level (summary_of ps).level) judged.1.judged

-- the level of a part that is sound is right
level_is : (p : Part) (h : History) (judged : IsOneWith p h) → IsSound h → IsGrade h judged.0.level
level_is p h judged sound = (judges_all h judged.0 sound judged.1.exact).7

levelled : (ps : List Part) (first : History) (others : List History) → AllZip IsOneWith ps (first ∷ others) → All IsSound (first ∷ others) → Fits first others → Levelled ps first others
levelled [] first others each sound fits = absurd each
levelled (p ∷ []) first [] each sound fits = record {
  lowest = each.0.0.level;
  graded = [];
  parts_are = refl;
  is_first = level_is p first each.0 (All-head IsSound first [] sound);
  are_others = All-nil (λ o. IsGrade o.part o.level);
  said = level_behind p [] first each.0 [] (none_behind p) ∙ best_last (level_of each.0.0.level);
}
levelled (p ∷ []) first (h ∷ hs) each sound fits = absurd each.1
levelled (p ∷ q ∷ qs) first [] each sound fits = absurd each.1
levelled (p ∷ q ∷ qs) first (h ∷ hs) each sound fits =
    let rest : Levelled (q ∷ qs) h hs = levelled (q ∷ qs) h hs each.1 (All-tail IsSound first (h ∷ hs) sound) fits.1 in
    let lowest_behind : Grade = least_of rest.lowest (map (λ o. o.level) rest.graded) in record {
      lowest = each.0.0.level;
      graded = record { part = h; level = rest.lowest } ∷ rest.graded;
      parts_are = ap (λ xs. h ∷ xs) rest.parts_are;
      is_first = level_is p first each.0 (All-head IsSound first (h ∷ hs) sound);
      are_others = All-cons (λ o. IsGrade o.part o.level) (record { part = h; level = rest.lowest }) rest.graded rest.is_first rest.are_others;
      said = level_behind p (q ∷ qs) first each.0 q.name (none_between p q qs first h each.0 each.1.0 fits.0) ∙ ap (worse (level_of each.0.0.level)) rest.said ∙ worse_of_two each.0.0.level lowest_behind;
    }

pub run_level : (ps : List Part) (first : History) (others : List History) (g : Grade) → AreSound ps first others → (IsGrade (whole first others) g ↔ ((summary_of ps).level ≡ level_of g))
run_level ps first others g s =
    let l : Levelled ps first others = levelled ps first others s.judged s.sound s.fit in
    let least : Grade = least_of l.lowest (map (λ o. o.level) l.graded) in
    let is : IsGrade (whole first others) least = subst (λ hs. IsGrade (whole first hs) least) l.parts_are
    (whole_level (record { part = first; level = l.lowest }) l.graded (All-head IsSound first others s.sound) (subst (All IsSound) (sym l.parts_are) (All-tail IsSound first others s.sound))
    (subst (Fits first) (sym l.parts_are) s.fit) l.is_first l.are_others) in (
      (λ also. l.said ∙ ap level_of (one_level (whole first others) least g is also)),
      (λ said. subst (IsGrade (whole first others)) (sym (grade_back least) ∙ ap grade_of (sym l.said ∙ said) ∙ grade_back g) is),
    )
