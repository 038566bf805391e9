-- A history has one level.
use Rattle.std.{proofs.{Common.{◌≡◌, ◌≤◌, Bool, cond, List, refl, arith}, lemmas.List.Sums.{sum_by-le-sum_by}}, specs.Prelude.{not}}
use Rattle.lab_history.specs.History.{History}
use Rattle.lab_deps.{specs.declared.edge.{Edge.{Edge}, Kind.{Kind}}, proofs.EachKind.{each_kind}}
use Rattle.lab_judge.{specs.{Phenomena.{is_write, is_item_anti, count_kind, MeetsPl1, MeetsPl2, MeetsPl299, MeetsPl3, IsGrade}, Places.{is_anti}, declared.report.Grade.{Grade, TheVariants.{BelowPl1, Pl1, Pl2, Pl299, Pl3, Unsound}}}}

-- where each that passes one test passes another, no more pass the one
fewer : (few more : Kind → Bool) → ((k : Kind) → cond (few k) 1 0 ≤ cond (more k) 1 0) → (es : List Edge) → count_kind few es ≤ count_kind more es
fewer few more each es = sum_by-le-sum_by (λ (e : Edge). cond (few e.kind) 1 0) (λ (e : Edge). cond (more e.kind) 1 0) es (λ e. each e.kind)

items_are_anti : (k : Kind) → cond (is_item_anti k) 1 0 ≤ cond (is_anti k) 1 0
items_are_anti = each_kind (λ k. cond (is_item_anti k) 1 0 ≤ cond (is_anti k) 1 0) (omega arith) (omega arith) (omega arith) (omega arith) (omega arith)

no_write_is_anti : (k : Kind) → cond (is_anti k) 1 0 ≤ cond (not (is_write k)) 1 0
no_write_is_anti = each_kind (λ k. cond (is_anti k) 1 0 ≤ cond (not (is_write k)) 1 0) (omega arith) (omega arith) (omega arith) (omega arith) (omega arith)

module _ (h : History) where
  -- each level is implied by those above it
  to_between : MeetsPl3 h → MeetsPl299 h
  to_between m = (m.0, λ es w. m.1 es (w.0, omega (arith, w.1, fewer is_item_anti is_anti items_are_anti es)))

  to_first : MeetsPl2 h → MeetsPl1 h
  to_first m = λ es w. m.2 es (w.0, omega (arith, w.1, fewer is_anti (λ k. not (is_write k)) no_write_is_anti es))

  -- so two grades that are right are one
  pub one_grade : (a b : Grade) → IsGrade h a → IsGrade h b → a ≡ b
  one_grade Pl3 Pl3 p q = refl
  one_grade Pl3 Pl299 p q = absurd (q.1 p)
  one_grade Pl3 Pl2 p q = absurd (q.1 (to_between p))
  one_grade Pl299 Pl3 p q = absurd (p.1 q)
  one_grade Pl299 Pl299 p q = refl
  one_grade Pl299 Pl2 p q = absurd (q.1 p.0)
  one_grade Pl299 Pl1 p q = absurd (q.1 p.0.0)
  one_grade Pl299 BelowPl1 p q = absurd (q (to_first p.0.0))
  one_grade Pl2 Pl3 p q = absurd (p.1 (to_between q))
  one_grade Pl2 Pl299 p q = absurd (p.1 q.0)
  one_grade Pl2 Pl2 p q = refl
  one_grade Pl1 Pl299 p q = absurd (p.1 q.0.0)
  one_grade Pl1 Pl1 p q = refl
  one_grade Pl1 BelowPl1 p q = absurd (q p.0)
  one_grade BelowPl1 Pl299 p q = absurd (p (to_first q.0.0))
  one_grade BelowPl1 Pl1 p q = absurd (p q.0)
  one_grade BelowPl1 BelowPl1 p q = refl
  one_grade Unsound b p q = absurd p
  one_grade a Unsound p q = absurd q
  one_grade a Pl1 p q = absurd (q.1 p.0)
  one_grade Pl1 b p q = absurd (p.1 q.0)
  one_grade a BelowPl1 p q = absurd (q (to_first p.0))
  one_grade BelowPl1 b p q = absurd (p (to_first q.0))
