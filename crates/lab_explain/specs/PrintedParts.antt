-- How the parts of an explanation follow each other, each cut between sentences where it is too long.
use Rattle.std.specs.Prelude.{◌≡◌, ℕ, ◌<◌, ◌≤◌, ◌⊎◌, Bool, true, false, List, [], ◌∷◌, ◌++◌}
use Rattle.std.specs.Str.{bytes_eq}
use Rattle.lab_history.specs.History.{History}
use Rattle.lab_deps.specs.declared.edge.Edge.{Edge}
use Rattle.lab_judge.specs.ReportText.{walk_text}
use Rattle.lab_judge.specs.declared.report.Finding.{Finding}
use Rattle.lab_judge.specs.declared.report.Finding.TheVariants.{Absent, Walk, At, NotJudged}
use Rattle.lab_judge.specs.declared.report.Report.{Report}
use Rattle.lab_reports.specs.Phenomena.{finding_of}
use Rattle.lab_reports.specs.declared.phenomenon.Phenomenon.{Phenomenon}
use Rattle.lab_reports.specs.declared.phenomenon.Phenomenon.TheVariants.{G0, G1a, G1b, G1c, GSingle, G2Item, G2}
use Rattle.lab_explain.specs.Lines.{lines, paragraph}
use Rattle.lab_explain.specs.Cuts.{IsCutOff, IsCut}
use Rattle.lab_explain.specs.Explanation.{serial_sentences, verdict_lines}
use Rattle.lab_explain.specs.Findings.{alone_sentences, beside, by_walk, pointer}
use Rattle.lab_explain.specs.Names.{level_line}
use Rattle.lab_explain.specs.Phrases.{last_line}
use Rattle.lab_explain.specs.Places.{places_lines}
use Rattle.lab_explain.specs.Told.{serial_walk, told_of, is_told}

-- a walk beside a serial verdict is cut off, be it the verdict's own or not: another one's walk in two lines, and behind them stands how to have it explained
abbrev pub IsCutWalk : History → Phenomenon → List ℕ → List Edge → Bool → List ℕ → Type 0
IsCutWalk h p of_serial walk true text = IsCutOff 3 (beside h p of_serial (Walk walk) ∷ []) text
IsCutWalk h p of_serial walk false text =
    (first : List ℕ) × IsCutOff 2 (paragraph (by_walk h p (Walk walk) (walk_text walk)) ∷ []) first × (text ≡ first ++ pointer p)

-- a finding beside a serial verdict is cut off
abbrev pub IsCutFinding : History → Phenomenon → List ℕ → Finding → List ℕ → Type 0
IsCutFinding h p of_serial Absent text = IsCutOff 3 (beside h p of_serial Absent ∷ []) text
IsCutFinding h p of_serial (Walk walk) text = IsCutWalk h p of_serial walk (bytes_eq (walk_text walk) of_serial) text
IsCutFinding h p of_serial (At n k row) text = IsCutOff 3 (beside h p of_serial (At n k row) ∷ []) text
IsCutFinding h p of_serial NotJudged text = IsCutOff 3 (beside h p of_serial NotJudged ∷ []) text

-- a text is a finding beside a serial verdict, where that has three lines at most; else the finding is cut off
abbrev pub IsBeside : History → Phenomenon → List ℕ → Finding → List ℕ → Type 0
IsBeside h p of_serial found text =
    ((lines (beside h p of_serial found) ≤ 3) × (text ≡ beside h p of_serial found))
    ⊎ ((3 < lines (beside h p of_serial found)) × IsCutFinding h p of_serial found text)

-- a text is the part of a phenomenon, be its cycle told or not
abbrev pub IsPart : History → Report → Phenomenon → Bool → List ℕ → Type 0
IsPart h report p true text = IsCut 23 (alone_sentences h p (finding_of p report)) text
IsPart h report p false text = IsBeside h p (serial_walk report.serial) (finding_of p report) text

-- a text is all parts of an explanation behind each other, each cut between its sentences where it has more lines than it may
pub record AreParts (h : History) (report : Report) (text : List ℕ) : Type 0 where
  pub serial : List ℕ
  pub snapshot : List ℕ
  pub part : Phenomenon → List ℕ
  pub serial_is : IsCut (verdict_lines (told_of report)) (serial_sentences h report.serial) serial
  pub snapshot_is : IsCut 14 (places_lines report.snapshot ∷ []) snapshot
  pub parts_are : (p : Phenomenon) → IsPart h report p (is_told (told_of report) p) (part p)
  pub text_is : text ≡ serial ++ snapshot ++ (part G0 ++ part G1a ++ part G1b ++ part G1c ++ part GSingle ++ part G2Item ++ part G2) ++ level_line report.level ++ last_line

-- a text is the part of a phenomenon by itself, cut between its sentences where it has more lines than it may
abbrev pub IsPartAlone : History → Report → Phenomenon → List ℕ → Type 0
IsPartAlone h report p text = (part : List ℕ) × IsCut 90 (alone_sentences h p (finding_of p report)) part × (text ≡ part ++ last_line)

-- a part stands in a text
abbrev pub StandsIn : List ℕ → List ℕ → Type 0
StandsIn part text = (before : List ℕ) × (behind : List ℕ) × (text ≡ before ++ part ++ behind)

-- a phenomenon is present by a cycle that isn't the serial verdict's, nor told by itself, and what is said of it beside the verdict has too many lines
abbrev pub IsCutOther : History → Report → Phenomenon → List Edge → Type 0
IsCutOther h report p walk =
    (finding_of p report ≡ Walk walk) × (is_told (told_of report) p ≡ false) × (bytes_eq (walk_text walk) (serial_walk report.serial) ≡ false)
    × (3 < lines (beside h p (serial_walk report.serial) (Walk walk)))
