-- The sentences on a finding of a phenomenon.
use Rattle.std.specs.Prelude.{ℕ, nat_le, cond, Option, List, [], ◌∷◌, ◌++◌, codes}
use Rattle.std.specs.Str.{bytes_eq}
use Rattle.lab_table.specs.Row.{Row}
use Rattle.lab_history.specs.History.{History}
use Rattle.lab_judge.specs.ReportText.{walk_text}
use Rattle.lab_judge.specs.declared.report.Finding.{Finding}
use Rattle.lab_judge.specs.declared.report.Finding.TheVariants.{Absent, Walk, At, NotJudged}
use Rattle.lab_judge.specs.declared.report.Report.{Report}
use Rattle.lab_reports.specs.Phenomena.{phenomenon_name, finding_of}
use Rattle.lab_reports.specs.declared.phenomenon.Phenomenon.{Phenomenon}
use Rattle.lab_drawing.specs.Cycles.{cycle_of}
use Rattle.lab_drawing.specs.Titles.{full_name}
use Rattle.lab_explain.specs.Lines.{lines, paragraph, cut, capped}
use Rattle.lab_explain.specs.Clauses.{saw_text}
use Rattle.lab_explain.specs.Names.{flaw_of}
use Rattle.lab_explain.specs.Phrases.{round_text, not_judged, other_words, asked_words, explains_words, pointer_words, pointer_end}
use Rattle.lab_explain.specs.Steps.{walk_sentences}
use Rattle.lab_explain.specs.Told.{serial_walk, is_told}

-- a phenomenon at the head of its part, by the cycle that is found of it
unfoldable pub head_of : History → Phenomenon → Finding → List ℕ
head_of h p found = full_name h p (cycle_of found) ++ codes ": "

-- a walk that isn't the serial verdict's, as the report prints it, and how to have it explained
unfoldable pub other_walk : Phenomenon → List ℕ → List ℕ
other_walk p walk = other_words ++ walk ++ asked_words ++ phenomenon_name p ++ explains_words

-- what is said of a walk beside a serial verdict
abbrev pub walk_beside : Phenomenon → List ℕ → List ℕ → List ℕ
walk_beside p of_serial walk = cond (bytes_eq walk of_serial) (codes "present, by the same cycle.") (other_walk p walk)

-- an operation that saw what it is not to see
unfoldable pub seen_flaw : History → Phenomenon → ℕ → ℕ → Row → List ℕ
seen_flaw h p n k row = codes "present: " ++ saw_text h n k row ++ flaw_of p

-- what is said of a finding beside a serial verdict
abbrev pub found_beside : History → Phenomenon → List ℕ → Finding → List ℕ
found_beside h p of_serial Absent = codes "absent."
found_beside h p of_serial (Walk walk) = walk_beside p of_serial (walk_text walk)
found_beside h p of_serial (At n k row) = seen_flaw h p n k row
found_beside h p of_serial NotJudged = not_judged

-- what is said of a finding that is explained by itself
abbrev pub said_alone : History → Phenomenon → Finding → List ℕ
said_alone h p Absent = codes "absent."
said_alone h p (Walk walk) = codes "present: " ++ round_text
said_alone h p (At n k row) = seen_flaw h p n k row
said_alone h p NotJudged = not_judged

-- the sentences of a finding that is explained by itself, in lines: its own, and those of its cycle where it has one
unfoldable pub alone_sentences : History → Phenomenon → Finding → List (List ℕ)
alone_sentences h p found = paragraph (head_of h p found ++ said_alone h p found) ∷ walk_sentences h (cycle_of found)

-- a finding beside a serial verdict whose walk is printed so
unfoldable pub beside : History → Phenomenon → List ℕ → Finding → List ℕ
beside h p of_serial found = paragraph (head_of h p found ++ found_beside h p of_serial found)

-- a walk that isn't the serial verdict's, as the report prints it
unfoldable pub by_walk : History → Phenomenon → Finding → List ℕ → List ℕ
by_walk h p found walk = head_of h p found ++ other_words ++ walk ++ codes "."

-- the line that says how to have a phenomenon explained
unfoldable pub pointer : Phenomenon → List ℕ
pointer p = pointer_words ++ phenomenon_name p ++ pointer_end

-- what is said of a walk beside a serial verdict for which there are too few lines: how to have another one explained always stands
abbrev pub cut_walk : History → Phenomenon → List ℕ → Finding → List ℕ → List ℕ
cut_walk h p of_serial found walk = cond (bytes_eq walk of_serial) (cut 3 (beside h p of_serial found ∷ [])) (cut 2 (paragraph (by_walk h p found walk) ∷ []) ++ pointer p)

-- a finding beside a serial verdict for which there are too few lines
abbrev pub cut_beside : History → Phenomenon → List ℕ → Finding → List ℕ
cut_beside h p of_serial Absent = cut 3 (beside h p of_serial Absent ∷ [])
cut_beside h p of_serial (Walk walk) = cut_walk h p of_serial (Walk walk) (walk_text walk)
cut_beside h p of_serial (At n k row) = cut 3 (beside h p of_serial (At n k row) ∷ [])
cut_beside h p of_serial NotJudged = cut 3 (beside h p of_serial NotJudged ∷ [])

-- a finding beside a serial verdict, in three lines at most
unfoldable pub few_beside : History → Phenomenon → List ℕ → Finding → List ℕ
few_beside h p of_serial found = cond (nat_le (lines (beside h p of_serial found)) 3) (beside h p of_serial found) (cut_beside h p of_serial found)

-- the lines of a finding beside a serial verdict: of the one whose cycle is told what it would have by itself, in 23 at most, of each other three at most
unfoldable pub finding_lines : History → Report → Option Phenomenon → Phenomenon → List ℕ
finding_lines h report told p =
    cond (is_told told p) (capped 23 (alone_sentences h p (finding_of p report))) (few_beside h p (serial_walk report.serial) (finding_of p report))
