-- What a judgement's level and its snapshot verdict say of the history.
use Rattle.std.{proofs.Common.{◌≡◌, ◌≢◌, ℕ, ◌+◌, ◌≤◌, Bool, true, false, true≢false, cond, List, [], ◌∷◌, sym, ap, ◌∙◌, arith}, specs.Prelude.{nat_le, not}}
use Rattle.lab_history.specs.History.{History}
use Rattle.lab_deps.specs.{Refusal.{is_uncommitted_read}, declared.edge.{Edge.{Edge}, Kind.{Kind, TheVariants.{Write, ItemRead, PredicateRead, ItemAnti, PredicateAnti}}}}
use Rattle.lab_judge.proofs.ClosedWalks.{times, times_are}
use Rattle.lab_judge.specs.Judgement.{IsExactJudgement, IsSnapshotVerdict, Judges, JudgesAtRead}
use Rattle.lab_judge.specs.Phenomena.{is_write, is_item_anti, count_kind, MeetsPl1, MeetsPl2, MeetsPl299, MeetsPl3, IsGrade}
use Rattle.lab_judge.specs.Places.{is_anti}
use Rattle.lab_judge.specs.declared.{places.Places.{Places}, serial.Serial.{Serial}, report.{Finding.{Finding}, Grade.{Grade}, Report.{Report}}}
use Rattle.lab_judge.specs.declared.places.Places.TheVariants as places
use Rattle.lab_judge.specs.declared.serial.Serial.TheVariants as serial
use Rattle.lab_judge.specs.declared.report.Grade.TheVariants as grade
use Rattle.lab_reports.specs.{Requirements.{levels_met, is_yes, meets}, RequirementLaws.{Has, MetIsSo}, declared.requirement.Requirement.TheVariants.{Pl1, Pl2, Pl299, Pl3, Snapshot}}

-- ---- each level is implied by those above it

more : (p q : Kind → Bool) → ((k : Kind) (a b : ℕ) → a ≤ b → cond (p k) (1 + a) a ≤ cond (q k) (1 + b) b) → (es : List Edge) → times p es ≤ times q es
more p q step [] = omega arith
more p q step (e ∷ es) = step e.kind (times p es) (times q es) (more p q step es)

item_or_anti : (k : Kind) (a b : ℕ) → a ≤ b → cond (is_item_anti k) (1 + a) a ≤ cond (is_anti k) (1 + b) b
item_or_anti Write a b le = le
item_or_anti ItemRead a b le = le
item_or_anti PredicateRead a b le = le
item_or_anti ItemAnti a b le = omega (arith, le)
item_or_anti PredicateAnti a b le = omega (arith, le)

anti_or_read : (k : Kind) (a b : ℕ) → a ≤ b → cond (is_anti k) (1 + a) a ≤ cond (not (is_write k)) (1 + b) b
anti_or_read Write a b le = le
anti_or_read ItemRead a b le = omega (arith, le)
anti_or_read PredicateRead a b le = omega (arith, le)
anti_or_read ItemAnti a b le = omega (arith, le)
anti_or_read PredicateAnti a b le = omega (arith, le)

none : (n : ℕ) → n ≤ 0 → n ≡ 0
none n le = omega (arith, le)

module _ (h : History) where
  to_between : MeetsPl3 h → MeetsPl299 h
  to_between m = (m.0, λ es w. m.1 es (w.0, omega (arith, w.1, more is_item_anti is_anti item_or_anti es, times_are is_item_anti es, times_are is_anti es)))

  to_first : MeetsPl2 h → MeetsPl1 h
  to_first m =
      λ es w. m.2 es
      (w.0, none (count_kind is_anti es) (omega (arith, w.1, more is_anti (λ k. not (is_write k)) anti_or_read es, times_are is_anti es, times_are (λ k. not (is_write k)) es)))

  -- ---- the level that a judgement found is the history's

  graded_by : (uncommitted : Bool) (found : List Finding) (g : Grade) → JudgesAtRead uncommitted h found g → g ≢ grade.Unsound → IsGrade h g
  graded_by true found g j apart = j.7
  graded_by false found g j apart = absurd (apart j.7)

  graded : (s : Serial) (found : List Finding) (g : Grade) → Judges h s found g → g ≢ grade.Unsound → IsGrade h g
  graded (serial.Yes order) found g j apart = j.7
  graded (serial.NoFault f) found g j apart = graded_by (is_uncommitted_read f) found g j apart
  graded (serial.NoCycle walk) found g j apart = j.7

  -- ---- levels that are met

  first_met : (g : Grade) → IsGrade h g → nat_le 1 (levels_met g) ≡ true → MeetsPl1 h
  first_met grade.BelowPl1 i m = absurd (true≢false (sym m))
  first_met grade.Pl1 i m = i.0
  first_met grade.Pl2 i m = to_first i.0
  first_met grade.Pl299 i m = to_first i.0.0
  first_met grade.Pl3 i m = to_first i.0
  first_met grade.Unsound i m = absurd i

  second_met : (g : Grade) → IsGrade h g → nat_le 2 (levels_met g) ≡ true → MeetsPl2 h
  second_met grade.BelowPl1 i m = absurd (true≢false (sym m))
  second_met grade.Pl1 i m = absurd (true≢false (sym m))
  second_met grade.Pl2 i m = i.0
  second_met grade.Pl299 i m = i.0.0
  second_met grade.Pl3 i m = i.0
  second_met grade.Unsound i m = absurd i

  between_met : (g : Grade) → IsGrade h g → nat_le 3 (levels_met g) ≡ true → MeetsPl299 h
  between_met grade.BelowPl1 i m = absurd (true≢false (sym m))
  between_met grade.Pl1 i m = absurd (true≢false (sym m))
  between_met grade.Pl2 i m = absurd (true≢false (sym m))
  between_met grade.Pl299 i m = i.0
  between_met grade.Pl3 i m = to_between i
  between_met grade.Unsound i m = absurd i

  third_met : (g : Grade) → IsGrade h g → nat_le 4 (levels_met g) ≡ true → MeetsPl3 h
  third_met grade.BelowPl1 i m = absurd (true≢false (sym m))
  third_met grade.Pl1 i m = absurd (true≢false (sym m))
  third_met grade.Pl2 i m = absurd (true≢false (sym m))
  third_met grade.Pl299 i m = absurd (true≢false (sym m))
  third_met grade.Pl3 i m = i
  third_met grade.Unsound i m = absurd i

  -- ---- levels that aren't met

  first_unmet : (g : Grade) → IsGrade h g → nat_le 1 (levels_met g) ≡ false → ¬ (MeetsPl1 h)
  first_unmet grade.BelowPl1 i m = i
  first_unmet grade.Pl1 i m = absurd (true≢false m)
  first_unmet grade.Pl2 i m = absurd (true≢false m)
  first_unmet grade.Pl299 i m = absurd (true≢false m)
  first_unmet grade.Pl3 i m = absurd (true≢false m)
  first_unmet grade.Unsound i m = absurd i

  second_unmet : (g : Grade) → IsGrade h g → nat_le 2 (levels_met g) ≡ false → ¬ (MeetsPl2 h)
  second_unmet grade.BelowPl1 i m = λ level. i (to_first level)
  second_unmet grade.Pl1 i m = i.1
  second_unmet grade.Pl2 i m = absurd (true≢false m)
  second_unmet grade.Pl299 i m = absurd (true≢false m)
  second_unmet grade.Pl3 i m = absurd (true≢false m)
  second_unmet grade.Unsound i m = absurd i

  between_unmet : (g : Grade) → IsGrade h g → nat_le 3 (levels_met g) ≡ false → ¬ (MeetsPl299 h)
  between_unmet grade.BelowPl1 i m = λ level. i (to_first level.0)
  between_unmet grade.Pl1 i m = λ level. i.1 level.0
  between_unmet grade.Pl2 i m = i.1
  between_unmet grade.Pl299 i m = absurd (true≢false m)
  between_unmet grade.Pl3 i m = absurd (true≢false m)
  between_unmet grade.Unsound i m = absurd i

  third_unmet : (g : Grade) → IsGrade h g → nat_le 4 (levels_met g) ≡ false → ¬ (MeetsPl3 h)
  third_unmet grade.BelowPl1 i m = λ level. i (to_first level.0)
  third_unmet grade.Pl1 i m = λ level. i.1 level.0
  third_unmet grade.Pl2 i m = λ level. i.1 (to_between level)
  third_unmet grade.Pl299 i m = i.1
  third_unmet grade.Pl3 i m = absurd (true≢false m)
  third_unmet grade.Unsound i m = absurd i

  -- ---- snapshots

  run_met : (p : Places) → IsSnapshotVerdict h p → is_yes p ≡ true → Has Snapshot h
  run_met (places.Yes spans) run m = (spans, run)
  run_met (places.NoFault f) run m = absurd (true≢false (sym m))
  run_met (places.NoCycle points) run m = absurd (true≢false (sym m))

-- a level that is met was found
found_one : (n : ℕ) (g : Grade) → 1 ≤ n → nat_le n (levels_met g) ≡ true → g ≢ grade.Unsound
found_one n g le m e =
    let unmet : nat_le n 0 ≡ true = sym (ap (λ k. nat_le n (levels_met k)) e) ∙ m in
    grind (arith, le, unmet)

pub met_is_so : MetIsSo
met_is_so h report Pl1 j m = first_met h report.level (graded h report.serial report.phenomena report.level j.judgement.found (found_one 1 report.level (omega arith) m)) m
met_is_so h report Pl2 j m = second_met h report.level (graded h report.serial report.phenomena report.level j.judgement.found (found_one 2 report.level (omega arith) m)) m
met_is_so h report Pl299 j m = between_met h report.level (graded h report.serial report.phenomena report.level j.judgement.found (found_one 3 report.level (omega arith) m)) m
met_is_so h report Pl3 j m = third_met h report.level (graded h report.serial report.phenomena report.level j.judgement.found (found_one 4 report.level (omega arith) m)) m
met_is_so h report Snapshot j m = run_met h report.snapshot j.judgement.snapshot m

module _ (h : History) (report : Report) (j : IsExactJudgement h report) (apart : report.level ≢ grade.Unsound) where
  found : IsGrade h report.level
  found = graded h report.serial report.phenomena report.level j.judgement.found apart

  pub first_is_not : meets Pl1 report ≡ false → ¬ (Has Pl1 h)
  first_is_not m = first_unmet h report.level found m

  pub second_is_not : meets Pl2 report ≡ false → ¬ (Has Pl2 h)
  second_is_not m = second_unmet h report.level found m

  pub between_is_not : meets Pl299 report ≡ false → ¬ (Has Pl299 h)
  between_is_not m = between_unmet h report.level found m

  pub third_is_not : meets Pl3 report ≡ false → ¬ (Has Pl3 h)
  third_is_not m = third_unmet h report.level found m
