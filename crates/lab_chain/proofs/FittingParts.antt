-- Parts of a run of which a line is clear: they were judged, and fit.
use Rattle.std.{proofs.{Common.{◌≡◌, ℕ, Option, Some, None, List, [], ◌∷◌, map, refl, sym, ap, ◌∙◌}, lemmas.List.Elements.{All-head, All-tail}}, specs.List.{All, AllZip}}
use Rattle.lab_table.specs.Row.{Row}
use Rattle.lab_history.specs.History.{History}
use Rattle.lab_judge.specs.declared.report.Report.{Report}
use Rattle.lab_parts.specs.Whole.{Fits}
use Rattle.lab_chain.specs.Chain.{Part, IsPart, summary_of}
use Rattle.lab_chain.specs.ChainLaws.{IsJudgedAs}
use Rattle.lab_chain.specs.Difference.{first_difference}
use Rattle.lab_chain.specs.Lines.{line_joined}
use Rattle.lab_chain.specs.Parts.{part_summary, unjudged_lines, IsOutcome}
use Rattle.lab_chain.specs.Summary.{lines_joined, seam_at, seam_between}
use Rattle.lab_chain.specs.declared.{line.Line.{Line, TheVariants.{Clear}}, part.Outcome.{Outcome, TheVariants.{Judged, Refused, Unreadable}}, summary.Lines.{Lines}}
use Rattle.lab_chain.proofs.{Differences.{same_tables}, PartSummaries.{of_part}, RunLines.{clear_apart, seam_of_parts}}

-- a part was judged
abbrev pub WasJudged : Part → Type 0
WasJudged p = (h : History) × (report : Report) × IsJudgedAs p h report

-- a part was judged, where a line of it is clear that isn't without a report
pub was_judged : (line : Lines → Line) → ((name : List ℕ) → line (unjudged_lines name) ≡ Clear → ⊥) → (p : Part) → IsPart p → line (of_part p).lines ≡ Clear → WasJudged p
was_judged line never p is clear = at p.outcome refl is.0 is.1 clear
  where
    at : (o : Outcome) → p.outcome ≡ o → (input : Option (List ℕ)) → IsOutcome input o → line (part_summary p.name o).lines ≡ Clear → WasJudged p
    at (Judged report initial last) is None called clear = absurd called
    at (Judged report initial last) is (Some bytes) called clear =
        (called.0, report, record { bytes = bytes; held = called.1; judged = is ∙ (λ i. Judged report (called.3 i) (called.4 i)); exact = called.2 })
    at (Refused f) is input called clear = absurd (never p.name clear)
    at Unreadable is input called clear = absurd (never p.name clear)

-- parts of which each has something of this form, whose histories fit
pub record AreFitting {X : Type 0} (part : X → History) (IsOf : Part → X → Type 0) (ps : List Part) : Type 0 where
  pub first : X
  pub others : List X
  pub each : AllZip IsOf ps (first ∷ others)
  pub fit : Fits (part first) (map part others)

-- What a clear line tells of a part, and that it isn't clear at a seam where tables differ.
module _
    {X : Type 0}
    (part : X → History)
    (IsOf : Part → X → Type 0)
    (judged : (p : Part) (x : X) → IsOf p x → (report : Report) × IsJudgedAs p (part x) report)
    (line : Lines → Line)
    (joins : (a b : Lines) → line (lines_joined a b) ≡ line_joined (line a) (line b))
    (never : (name : List ℕ) (row : Row) → line (seam_at name (Some row)).lines ≡ Clear → ⊥)
    (told : (p : Part) → IsPart p → line (of_part p).lines ≡ Clear → (x : X) × IsOf p x) where
  -- where the line is clear at their seam, the second of two parts begins with the table with which the first ended
  seam_fits : (p q : Part) (qs : List Part) (x y : X) → IsOf p x → IsOf q y → line (seam_between (of_part p).ends (summary_of (q ∷ qs)).ends).lines ≡ Clear → (part x).end_table ≡ (part y).initial
  seam_fits p q qs x y first next clear =
      at (first_difference (part x).end_table (part y).initial) refl
      (sym (ap (λ s. line s.lines) (seam_of_parts p q qs (part x) (part y) (judged p x first).0 (judged q y next).0 (judged p x first).1 (judged q y next).1)) ∙ clear)
    where
      at : (o : Option Row) → first_difference (part x).end_table (part y).initial ≡ o → line (seam_at q.name (first_difference (part x).end_table (part y).initial)).lines ≡ Clear → (part x).end_table ≡ (part y).initial
      at None same clear = same_tables (part x).end_table (part y).initial same
      at (Some row) is clear = absurd (never q.name row (sym (ap (λ o. line (seam_at q.name o).lines) is) ∙ clear))

  pub fitting : (p : Part) (ps : List Part) → All IsPart (p ∷ ps) → line (summary_of (p ∷ ps)).lines ≡ Clear → AreFitting part IsOf (p ∷ ps)
  fitting p [] all clear =
      let x : (x : X) × IsOf p x = told p (All-head IsPart p [] all) (clear_apart line joins p [] clear).0 in record { first = x.0; others = []; each = (x.1, tt); fit = tt }
  fitting p (q ∷ qs) all clear =
      let x : (x : X) × IsOf p x = told p (All-head IsPart p (q ∷ qs) all) (clear_apart line joins p (q ∷ qs) clear).0 in
      let rest : AreFitting part IsOf (q ∷ qs) = fitting q qs (All-tail IsPart p (q ∷ qs) all) (clear_apart line joins p (q ∷ qs) clear).2 in record {
        first = x.0;
        others = rest.first ∷ rest.others;
        each = (x.1, rest.each);
        fit = (seam_fits p q qs x.0 rest.first x.1 rest.each.0 (clear_apart line joins p (q ∷ qs) clear).1, rest.fit);
      }
