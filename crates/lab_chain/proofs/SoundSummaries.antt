-- What is said of parts that are sound and fit.
use Rattle.std.{proofs.{Common.{◌≡◌, None, List, [], ◌∷◌, ap, ◌∙◌}, lemmas.List.Elements.{All-nil, All-cons, All-head, All-tail}}, specs.{Prelude.{◌↔◌}, List.{All, AllZip}}}
use Rattle.lab_history.specs.History.{History}
use Rattle.lab_deps.specs.Soundness.{IsSound}
use Rattle.lab_judge.specs.{Judgement.{IsSerialVerdict, IsExactJudgement, JudgesAll, Judges}, declared.{report.Report.{Report}, serial.Serial.{Serial}}}
use Rattle.lab_judge.specs.declared.serial.Serial.TheVariants as serial
use Rattle.lab_parts.specs.Whole.{Fits}
use Rattle.lab_chain.specs.{Chain.{Part, summary_of}, ChainLaws.{IsJudgedAs}, Lines.{line_joined}, Summary.{clear_lines, lines_joined, seam_at, seam_between}, declared.{line.Line.{Line, TheVariants.{Clear}}, seam.Seam.{Seam}, summary.Lines.{Lines}}}
use Rattle.lab_chain.proofs.{Differences.{no_difference}, JoinedSummaries.{no_seam_behind}, PartSummaries.{of_part}, RunLines.{clear_apart, clear_together, seam_of_parts}}

-- a part was judged, as one with this history
abbrev pub IsOneWith : Part → History → Type 0
IsOneWith p h = (report : Report) × IsJudgedAs p h report

-- everything is judged in a sound history
pub judges_all : (h : History) (report : Report) → IsSound h → IsExactJudgement h report → JudgesAll h report.phenomena report.level
judges_all h report sound exact = at report.serial exact.judgement.serial exact.judgement.found
  where
    at : (s : Serial) → IsSerialVerdict h s → Judges h s report.phenomena report.level → JudgesAll h report.phenomena report.level
    at (serial.Yes order) verdict found = found
    at (serial.NoCycle walk) verdict found = found
    at (serial.NoFault fault) verdict found = absurd (sound fault verdict.0)

-- what is said of a seam where nothing is found
abbrev pub clear_seam : Seam
clear_seam = seam_at [] None

-- nothing is said behind the last part
pub none_behind : (p : Part) → seam_between (of_part p).ends (summary_of []).ends ≡ clear_seam
none_behind p = no_seam_behind (of_part p).ends

-- nor between two parts that fit
pub none_between : (p q : Part) (qs : List Part) (g h : History) → IsOneWith p g → IsOneWith q h → g.end_table ≡ h.initial → seam_between (of_part p).ends (summary_of (q ∷ qs)).ends ≡ seam_at q.name None
none_between p q qs g h first next same = seam_of_parts p q qs g h first.0 next.0 first.1 next.1 ∙ ap (seam_at q.name) (no_difference g.end_table h.initial same)

-- A line that tells of each sound part whether it is free of something.
module _
    (line : Lines → Line)
    (joins : (a b : Lines) → line (lines_joined a b) ≡ line_joined (line a) (line b))
    (clear : line clear_lines ≡ Clear)
    (IsFree : History → Type 0)
    (told : (p : Part) (h : History) → IsOneWith p h → IsSound h → (line (of_part p).lines ≡ Clear) ↔ IsFree h) where
  -- it tells of the run whether each part is
  pub told_by_parts : (ps : List Part) (first : History) (others : List History) → AllZip IsOneWith ps (first ∷ others) → All IsSound (first ∷ others) → Fits first others
      → (line (summary_of ps).lines ≡ Clear) ↔ (IsFree first × All IsFree others)
  told_by_parts [] first others each sound fits = absurd each
  told_by_parts (p ∷ []) first [] each sound fits =
      let one : (line (of_part p).lines ≡ Clear) ↔ IsFree first = told p first each.0 (All-head IsSound first [] sound) in (
        (λ is. (one.0 (clear_apart line joins p [] is).0, All-nil IsFree)),
        (λ free. clear_together line joins p [] (one.1 free.0, ap (λ s. line s.lines) (none_behind p) ∙ clear, clear)),
      )
  told_by_parts (p ∷ []) first (h ∷ hs) each sound fits = absurd each.1
  told_by_parts (p ∷ q ∷ qs) first [] each sound fits = absurd each.1
  told_by_parts (p ∷ q ∷ qs) first (h ∷ hs) each sound fits =
      let one : (line (of_part p).lines ≡ Clear) ↔ IsFree first = told p first each.0 (All-head IsSound first (h ∷ hs) sound) in
      let rest : (line (summary_of (q ∷ qs)).lines ≡ Clear) ↔ (IsFree h × All IsFree hs) = told_by_parts (q ∷ qs) h hs each.1 (All-tail IsSound first (h ∷ hs) sound) fits.1 in (
        (λ is.
            let three : (line (of_part p).lines ≡ Clear) × (line (seam_between (of_part p).ends (summary_of (q ∷ qs)).ends).lines ≡ Clear) × (line (summary_of (q ∷ qs)).lines ≡ Clear) = clear_apart line joins p (q ∷ qs) is in
            (one.0 three.0, All-cons IsFree h hs (rest.0 three.2).0 (rest.0 three.2).1)),
        (λ free. clear_together line joins p (q ∷ qs)
            (one.1 free.0, ap (λ s. line s.lines) (none_between p q qs first h each.0 each.1.0 fits.0) ∙ clear, rest.1 (All-head IsFree h hs free.1, All-tail IsFree h hs free.1))),
      )
