-- A line of a run, and the seams between its parts.
use Rattle.std.proofs.Common.{◌≡◌, ℕ, Some, List, ◌∷◌, refl, sym, ap, ◌∙◌}
use Rattle.lab_history.specs.History.{History}
use Rattle.lab_judge.specs.declared.report.Report.{Report}
use Rattle.lab_chain.specs.Chain.{Part, summary_of}
use Rattle.lab_chain.specs.ChainLaws.{IsJudgedAs}
use Rattle.lab_chain.specs.Difference.{first_difference}
use Rattle.lab_chain.specs.Lines.{line_joined}
use Rattle.lab_chain.specs.Parts.{part_summary}
use Rattle.lab_chain.specs.Summary.{lines_joined, seam_at, seam_between, ends_joined}
use Rattle.lab_chain.specs.declared.{line.Line.{Line, TheVariants.{Clear, Unjudged, Found}}, summary.{Ends.{Ends}, Lines.{Lines}}}
use Rattle.lab_chain.proofs.{JoinedLines.{clear_first}, JoinedSummaries.{seam_to}, PartSummaries.{of_part, first_and_rest}}

-- a line of two is clear where each is
both_clear : (a b : Line) → line_joined a b ≡ Clear → (a ≡ Clear) × (b ≡ Clear)
both_clear Clear b is = (refl, sym (clear_first b) ∙ is)
both_clear (Unjudged part) Clear is = absurd cc
both_clear (Unjudged part) (Unjudged other) is = absurd cc
both_clear (Unjudged part) (Found other reason) is = absurd cc
both_clear (Found part reason) Clear is = absurd cc
both_clear (Found part reason) (Unjudged other) is = absurd cc
both_clear (Found part reason) (Found other why) is = absurd cc

module _ (line : Lines → Line) (joins : (a b : Lines) → line (lines_joined a b) ≡ line_joined (line a) (line b)) (p : Part) (ps : List Part) where
  -- a line of the first part, of the seam behind it, and of those behind that
  abbrev pub Three : Type 0
  Three = (line (of_part p).lines ≡ Clear) × (line (seam_between (of_part p).ends (summary_of ps).ends).lines ≡ Clear) × (line (summary_of ps).lines ≡ Clear)

  three_joined : line (summary_of (p ∷ ps)).lines
      ≡ line_joined (line (of_part p).lines) (line_joined (line (seam_between (of_part p).ends (summary_of ps).ends).lines) (line (summary_of ps).lines))
  three_joined =
      ap (λ s. line s.lines) (first_and_rest p ps) ∙ joins (of_part p).lines (lines_joined (seam_between (of_part p).ends (summary_of ps).ends).lines (summary_of ps).lines)
      ∙ ap (line_joined (line (of_part p).lines)) (joins (seam_between (of_part p).ends (summary_of ps).ends).lines (summary_of ps).lines)

  -- the line of a run is clear where each of these is
  pub clear_apart : line (summary_of (p ∷ ps)).lines ≡ Clear → Three
  clear_apart clear =
      let first : (line (of_part p).lines ≡ Clear) × (line_joined (line (seam_between (of_part p).ends (summary_of ps).ends).lines) (line (summary_of ps).lines) ≡ Clear) = both_clear _ _ (sym three_joined ∙ clear) in
      let behind : (line (seam_between (of_part p).ends (summary_of ps).ends).lines ≡ Clear) × (line (summary_of ps).lines ≡ Clear) = both_clear _ _ first.1 in (first.0, behind.0, behind.1)

  pub clear_together : Three → line (summary_of (p ∷ ps)).lines ≡ Clear
  clear_together three = three_joined ∙ (λ i. line_joined (three.0 i) (line_joined (three.1 i) (three.2 i)))

-- the ends of a part that was judged
abbrev ends_of : List ℕ → History → Ends
ends_of name h = record { first = name; initial = Some h.initial; last = Some h.end_table }

-- what is said of the seam between two parts that were judged, whatever lies behind them
pub seam_of_parts : (p q : Part) (qs : List Part) (g h : History) (one other : Report) → IsJudgedAs p g one → IsJudgedAs q h other
    → seam_between (of_part p).ends (summary_of (q ∷ qs)).ends ≡ seam_at q.name (first_difference g.end_table h.initial)
seam_of_parts p q qs g h one other first next =
    ap (λ s. seam_between (of_part p).ends s.ends) (first_and_rest q qs) ∙ ap (λ o. seam_between (of_part p).ends (ends_joined (part_summary q.name o).ends (summary_of qs).ends)) next.judged
    ∙ seam_to (of_part p).ends (ends_of q.name h) (summary_of qs).ends ∙ ap (λ o. seam_between (part_summary p.name o).ends (Some (ends_of q.name h))) first.judged
