-- Lines about cycles in a run whose parts are sound and fit.
use Rattle.std.{proofs.{Common.{◌≡◌, ℕ, Bool, List, refl, sym, ap, ◌∙◌}, lemmas.List.Elements.{All-head, All-tail}}, specs.{Prelude.{◌↔◌}, List.{All}}}
use Rattle.lab_history.specs.History.{History}
use Rattle.lab_deps.specs.{Soundness.{IsSound}, declared.edge.{Edge.{Edge}, Kind.{Kind}}}
use Rattle.lab_judge.specs.{Judgement.{FindsWalk, JudgesAll}, Phenomena.{NoWalk}, declared.report.{Finding.{Finding, TheVariants.{Absent, Walk, At, NotJudged}}, Report.{Report}}}
use Rattle.lab_parts.{specs.Whole.{whole}, proofs.{SplitKinds.{IsCounted}, WholeKinds.{free_of_counted}}}
use Rattle.lab_chain.specs.{Chain.{Part, summary_of}, ChainLaws.{AreSound, TellsOf}, Lines.{line_joined}, Parts.{part_summary, report_lines, finding_line}, Summary.{clear_lines, lines_joined}, declared.{line.Line.{Line, TheVariants.{Clear}}, summary.Lines.{Lines}}}
use Rattle.lab_chain.proofs.{PartSummaries.{of_part}, SoundSummaries.{IsOneWith, judges_all, told_by_parts}}

-- the line of an exact finding is clear where there is no such walk
finding_tells : (name : List ℕ) (IsOne : List Edge → Type 0) (f : Finding) → FindsWalk IsOne f → TellsOf (finding_line name f) (NoWalk IsOne)
finding_tells name IsOne Absent none = ((λ is. none), (λ free. refl))
finding_tells name IsOne (Walk walk) one = ((λ is. absurd cc), (λ free. absurd (free walk one)))
finding_tells name IsOne (At n k row) none = absurd none
finding_tells name IsOne NotJudged none = absurd none

-- A line about cycles that have so many edges of a kind.
module _
    (line : Lines → Line)
    (joins : (a b : Lines) → line (lines_joined a b) ≡ line_joined (line a) (line b))
    (clear : line clear_lines ≡ Clear)
    (finding : Report → Finding)
    (line_is : (name : List ℕ) (report : Report) → line (report_lines name report) ≡ finding_line name (finding report))
    (test : Kind → Bool)
    (Many : ℕ → Type 0)
    (exact : (h : History) (report : Report) → JudgesAll h report.phenomena report.level → FindsWalk (IsCounted test Many h) (finding report)) where
  -- of a part that is sound
  part_tells : (p : Part) (h : History) → IsOneWith p h → IsSound h → TellsOf (line (of_part p).lines) (NoWalk (IsCounted test Many h))
  part_tells p h judged sound =
      let is : line (of_part p).lines ≡ finding_line p.name (finding judged.0) = ap (λ o. line (part_summary p.name o).lines) judged.1.judged ∙ line_is p.name judged.0 in
      let tells : TellsOf (finding_line p.name (finding judged.0)) (NoWalk (IsCounted test Many h)) = finding_tells p.name (IsCounted test Many h) (finding judged.0) (exact h judged.0 (judges_all h judged.0 sound judged.1.exact)) in
      ((λ c. tells.0 (sym is ∙ c)), (λ free. is ∙ tells.1 free))

  -- of a run whose parts are sound and fit
  pub run_tells : (ps : List Part) (first : History) (others : List History) → AreSound ps first others → TellsOf (line (summary_of ps).lines) (NoWalk (IsCounted test Many (whole first others)))
  run_tells ps first others s =
      let parts : TellsOf (line (summary_of ps).lines) (NoWalk (IsCounted test Many first) × All (λ h. NoWalk (IsCounted test Many h)) others) =
      told_by_parts line joins clear (λ h. NoWalk (IsCounted test Many h)) part_tells ps first others s.judged s.sound s.fit in
      let run : NoWalk (IsCounted test Many (whole first others)) ↔ (NoWalk (IsCounted test Many first) × All (λ h. NoWalk (IsCounted test Many h)) others) =
      free_of_counted test Many first others (All-head IsSound first others s.sound) (All-tail IsSound first others s.sound) s.fit in
      ((λ c. run.1 (parts.0 c)), (λ free. parts.1 (run.0 free)))
