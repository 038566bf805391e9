-- Where what is said of another cycle is cut, how to have it explained stands in the explanation.
use Rattle.std.{proofs.{Common.{◌≡◌, ◌<◌, ℕ, false, cond, None, List, [], ◌∷◌, ◌++◌, ap, ◌∙◌, append_assoc, arith}, lemmas.Bool.Decides.{nat_tests}}, specs.{Prelude.{nat_le}, Str.{bytes_eq}}}
use Rattle.lab_history.specs.History.{History}
use Rattle.lab_deps.specs.declared.edge.Edge.{Edge}
use Rattle.lab_judge.specs.{ReportText.{walk_text}, declared.report.{Finding.TheVariants.{Walk}, Report.{Report}}}
use Rattle.lab_reports.specs.{Phenomena.{finding_of}, declared.phenomenon.Phenomenon.{Phenomenon, TheVariants.{G0, G1a, G1b, G1c, GSingle, G2Item, G2}}}
use Rattle.lab_explain.specs.Lines.{lines, paragraph, cut, capped}
use Rattle.lab_explain.specs.Explanation.{serial_sentences, findings_lines, verdict_lines, whole_text, explanation_of}
use Rattle.lab_explain.specs.Findings.{alone_sentences, beside, by_walk, pointer, cut_walk, few_beside, finding_lines}
use Rattle.lab_explain.specs.Names.{level_line}
use Rattle.lab_explain.specs.Phrases.{last_line}
use Rattle.lab_explain.specs.Places.{places_lines}
use Rattle.lab_explain.specs.PrintedParts.{StandsIn, IsCutOther}
use Rattle.lab_explain.specs.Told.{serial_walk, told_of}

-- each of seven parts stands among them
module _ (s t f0 f1 f2 f3 f4 f5 f6 y z : List ℕ) where
  abbrev all : List ℕ
  all = s ++ t ++ (f0 ++ f1 ++ f2 ++ f3 ++ f4 ++ f5 ++ f6) ++ y ++ z

  first_stands : StandsIn f0 all
  first_stands = (s ++ t, f1 ++ f2 ++ f3 ++ f4 ++ f5 ++ f6 ++ y ++ z, simp append_assoc)

  second_stands : StandsIn f1 all
  second_stands = (s ++ t ++ f0, f2 ++ f3 ++ f4 ++ f5 ++ f6 ++ y ++ z, simp append_assoc)

  third_stands : StandsIn f2 all
  third_stands = (s ++ t ++ f0 ++ f1, f3 ++ f4 ++ f5 ++ f6 ++ y ++ z, simp append_assoc)

  fourth_stands : StandsIn f3 all
  fourth_stands = (s ++ t ++ f0 ++ f1 ++ f2, f4 ++ f5 ++ f6 ++ y ++ z, simp append_assoc)

  fifth_stands : StandsIn f4 all
  fifth_stands = (s ++ t ++ f0 ++ f1 ++ f2 ++ f3, f5 ++ f6 ++ y ++ z, simp append_assoc)

  sixth_stands : StandsIn f5 all
  sixth_stands = (s ++ t ++ f0 ++ f1 ++ f2 ++ f3 ++ f4, f6 ++ y ++ z, simp append_assoc)

  seventh_stands : StandsIn f6 all
  seventh_stands = (s ++ t ++ f0 ++ f1 ++ f2 ++ f3 ++ f4 ++ f5, y ++ z, simp append_assoc)

-- what stands at the end of a part stands where the part does
end_stands : (part first end text : List ℕ) → part ≡ first ++ end → StandsIn part text → StandsIn end text
end_stands part first end text same (before, behind, is) =
    let regrouped : before ++ (first ++ end) ++ behind ≡ (before ++ first) ++ end ++ behind = simp append_assoc in
    (before ++ first, behind, is ∙ ap (λ l. before ++ l ++ behind) same ∙ regrouped)

-- what stands before it in what is said of a walk that is cut
abbrev front_of : History → Phenomenon → List Edge → List ℕ
front_of h p walk = cut 2 (paragraph (by_walk h p (Walk walk) (walk_text walk)) ∷ [])

beside_pointed : (h : History) (p : Phenomenon) (of_serial : List ℕ) (walk : List Edge) → bytes_eq (walk_text walk) of_serial ≡ false → 3 < lines (beside h p of_serial (Walk walk))
    → few_beside h p of_serial (Walk walk) ≡ front_of h p walk ++ pointer p
unfolding few_beside
beside_pointed h p of_serial walk other more =
    let long : nat_le (lines (beside h p of_serial (Walk walk))) 3 ≡ false = grind (arith, nat_tests, more) in
    ap (λ v. cond v (beside h p of_serial (Walk walk)) (cut_walk h p of_serial (Walk walk) (walk_text walk))) long
    ∙ ap (λ v. cond v (cut 3 (beside h p of_serial (Walk walk) ∷ [])) (front_of h p walk ++ pointer p)) other

module _ (h : History) (report : Report) where
  abbrev part : Phenomenon → List ℕ
  part p = finding_lines h report (told_of report) p

  part_pointed : (p : Phenomenon) (walk : List Edge) → IsCutOther h report p walk → part p ≡ front_of h p walk ++ pointer p
  unfolding finding_lines
  part_pointed p walk (found, untold, other, more) =
      ap (λ v. cond v (capped 23 (alone_sentences h p (finding_of p report))) (few_beside h p (serial_walk report.serial) (finding_of p report))) untold
      ∙ ap (λ one. few_beside h p (serial_walk report.serial) one) found
      ∙ beside_pointed h p (serial_walk report.serial) walk other more

  abbrev serial : List ℕ
  serial = capped (verdict_lines (told_of report)) (serial_sentences h report.serial)

  abbrev snapshot : List ℕ
  snapshot = capped 14 (places_lines report.snapshot ∷ [])

  part_stands : (p : Phenomenon) → StandsIn (part p) (explanation_of h report None)
  unfolding whole_text findings_lines
  part_stands G0 = first_stands serial snapshot (part G0) (part G1a) (part G1b) (part G1c) (part GSingle) (part G2Item) (part G2) (level_line report.level) last_line
  part_stands G1a = second_stands serial snapshot (part G0) (part G1a) (part G1b) (part G1c) (part GSingle) (part G2Item) (part G2) (level_line report.level) last_line
  part_stands G1b = third_stands serial snapshot (part G0) (part G1a) (part G1b) (part G1c) (part GSingle) (part G2Item) (part G2) (level_line report.level) last_line
  part_stands G1c = fourth_stands serial snapshot (part G0) (part G1a) (part G1b) (part G1c) (part GSingle) (part G2Item) (part G2) (level_line report.level) last_line
  part_stands GSingle = fifth_stands serial snapshot (part G0) (part G1a) (part G1b) (part G1c) (part GSingle) (part G2Item) (part G2) (level_line report.level) last_line
  part_stands G2Item = sixth_stands serial snapshot (part G0) (part G1a) (part G1b) (part G1c) (part GSingle) (part G2Item) (part G2) (level_line report.level) last_line
  part_stands G2 = seventh_stands serial snapshot (part G0) (part G1a) (part G1b) (part G1c) (part GSingle) (part G2Item) (part G2) (level_line report.level) last_line

  pub pointed : (p : Phenomenon) (walk : List Edge) → IsCutOther h report p walk → StandsIn (pointer p) (explanation_of h report None)
  pointed p walk is = end_stands (part p) (front_of h p walk) (pointer p) (explanation_of h report None) (part_pointed p walk is) (part_stands p)
