-- An explanation's parts are cut between their sentences.
use Rattle.std.{proofs.{Common.{◌≡◌, ℕ, inl, inr, Bool, true, false, cond, Some, None, List, [], ◌∷◌, ◌++◌, refl, arith}, lemmas.Bool.Decides.{nat_tests}}, specs.{Prelude.{nat_le}, Str.{bytes_eq}}}
use Rattle.lab_history.specs.History.{History}
use Rattle.lab_deps.specs.declared.edge.Edge.{Edge}
use Rattle.lab_judge.specs.{ReportText.{walk_text}, declared.report.{Finding.{Finding, TheVariants.{Absent, Walk, At, NotJudged}}, Report.{Report}}}
use Rattle.lab_reports.specs.{Phenomena.{finding_of}, declared.phenomenon.Phenomenon.{Phenomenon}}
use Rattle.lab_explain.specs.Lines.{lines, paragraph, cut, capped}
use Rattle.lab_explain.specs.Explanation.{serial_sentences, findings_lines, verdict_lines, whole_text, one_text, explanation_of}
use Rattle.lab_explain.specs.Findings.{alone_sentences, beside, by_walk, pointer, cut_beside, few_beside, finding_lines}
use Rattle.lab_explain.specs.Places.{places_lines}
use Rattle.lab_explain.specs.PrintedParts.{IsCutWalk, IsCutFinding, IsBeside, IsPart, AreParts, IsPartAlone}
use Rattle.lab_explain.specs.Told.{serial_walk, told_of, is_told}
use Rattle.lab_explain.proofs.Standing.{cut_is, is_cut}

-- what is said of a finding beside a serial verdict
module _ (h : History) (p : Phenomenon) (of_serial : List ℕ) where
  walk_is : (walk : List Edge) (v : Bool)
      → IsCutWalk h p of_serial walk v (cond v (cut 3 (beside h p of_serial (Walk walk) ∷ [])) (cut 2 (paragraph (by_walk h p (Walk walk) (walk_text walk)) ∷ []) ++ pointer p))
  walk_is walk true = cut_is 3 (beside h p of_serial (Walk walk) ∷ [])
  walk_is walk false = (cut 2 (paragraph (by_walk h p (Walk walk) (walk_text walk)) ∷ []), cut_is 2 (paragraph (by_walk h p (Walk walk) (walk_text walk)) ∷ []), refl)

  finding_is : (found : Finding) → IsCutFinding h p of_serial found (cut_beside h p of_serial found)
  finding_is Absent = cut_is 3 (beside h p of_serial Absent ∷ [])
  finding_is (Walk walk) = walk_is walk (bytes_eq (walk_text walk) of_serial)
  finding_is (At n k row) = cut_is 3 (beside h p of_serial (At n k row) ∷ [])
  finding_is NotJudged = cut_is 3 (beside h p of_serial NotJudged ∷ [])

  few_is : (found : Finding) (v : Bool) → nat_le (lines (beside h p of_serial found)) 3 ≡ v → IsBeside h p of_serial found (cond v (beside h p of_serial found) (cut_beside h p of_serial found))
  few_is found true is = inl (grind (arith, nat_tests, is), refl)
  few_is found false isnt = inr (grind (arith, nat_tests, isnt), finding_is found)

  beside_is : (found : Finding) → IsBeside h p of_serial found (few_beside h p of_serial found)
  unfolding few_beside
  beside_is found = few_is found (nat_le (lines (beside h p of_serial found)) 3) refl

module _ (h : History) (report : Report) where
  part_by : (p : Phenomenon) (v : Bool)
      → IsPart h report p v (cond v (capped 23 (alone_sentences h p (finding_of p report))) (few_beside h p (serial_walk report.serial) (finding_of p report)))
  part_by p true = is_cut 23 (alone_sentences h p (finding_of p report))
  part_by p false = beside_is h p (serial_walk report.serial) (finding_of p report)

  part_is : (p : Phenomenon) → IsPart h report p (is_told (told_of report) p) (finding_lines h report (told_of report) p)
  unfolding finding_lines
  part_is p = part_by p (is_told (told_of report) p)

  pub are_parts : AreParts h report (explanation_of h report None)
  unfolding whole_text findings_lines
  are_parts = record {
    serial = capped (verdict_lines (told_of report)) (serial_sentences h report.serial);
    snapshot = capped 14 (places_lines report.snapshot ∷ []);
    part = λ p. finding_lines h report (told_of report) p;
    serial_is = is_cut (verdict_lines (told_of report)) (serial_sentences h report.serial);
    snapshot_is = is_cut 14 (places_lines report.snapshot ∷ []);
    parts_are = part_is;
    text_is = refl;
  }

  pub alone_is : (p : Phenomenon) → IsPartAlone h report p (explanation_of h report (Some p))
  unfolding one_text
  alone_is p = (capped 90 (alone_sentences h p (finding_of p report)), is_cut 90 (alone_sentences h p (finding_of p report)), refl)
