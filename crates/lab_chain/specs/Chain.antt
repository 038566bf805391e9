-- The parts of a run, the summary of all of them, and whether the summary meets a requirement.
use Rattle.std.specs.Prelude.{ℕ, nat_le, nat_lt, length, Bool, true, false, ◌&&◌, cond, Option, Some, None, List, [], ◌++◌, map, take, fold, codes}
use Rattle.lab_chain.specs.Levels.{levels_met, level_name}
use Rattle.lab_chain.specs.Parts.{part_summary, IsOutcome}
use Rattle.lab_chain.specs.Summary.{joined, nothing}
use Rattle.lab_chain.specs.declared.line.Line.{Line}
use Rattle.lab_chain.specs.declared.line.Line.TheVariants.{Clear, Unjudged, Found}
use Rattle.lab_chain.specs.declared.part.Outcome.{Outcome}
use Rattle.lab_chain.specs.declared.level.Level.{Level}
use Rattle.lab_chain.specs.declared.level.Level.TheVariants as level
use Rattle.lab_chain.specs.declared.summary.Ends.{Ends}
use Rattle.lab_chain.specs.declared.summary.Lines.{Lines}
use Rattle.lab_chain.specs.declared.summary.Summary.{Summary}
use Rattle.lab_reports.specs.Requirements.{requirement_name}
use Rattle.lab_reports.specs.declared.requirement.Requirement.{Requirement}
use Rattle.lab_reports.specs.declared.requirement.Requirement.TheVariants.{Pl1, Pl2, Pl299, Pl3, Snapshot}

-- a part of a run: its name, and what became of it
pub record Part : Type 0 where
  pub name : List ℕ
  pub outcome : Outcome

-- what became of a part is what the bytes call for that were read of it, if there were any
abbrev pub IsPart : Part → Type 0
IsPart p = (input : Option (List ℕ)) × IsOutcome input p.outcome

-- what is said of a run of which this is said, with another part behind it
abbrev pub with_part : Summary → Part → Summary
with_part s p = joined s (part_summary p.name p.outcome)

-- what is said of a run with these parts
abbrev pub summary_of : List Part → Summary
summary_of ps = fold with_part nothing ps

-- ---- what is required

-- a line that says yes, or absent
abbrev pub is_clear : Line → Bool
is_clear Clear = true
is_clear (Unjudged part) = false
is_clear (Found part reason) = false

-- whether a run meets a requirement: its level is the one that is asked for or a higher one, or it is a snapshot run
abbrev pub chain_meets : Requirement → Summary → Bool
chain_meets Pl1 s = nat_le 1 (levels_met s.level)
chain_meets Pl2 s = nat_le 2 (levels_met s.level)
chain_meets Pl299 s = nat_le 3 (levels_met s.level)
chain_meets Pl3 s = nat_le 4 (levels_met s.level)
chain_meets Snapshot s = is_clear s.lines.snapshot

-- whether a run keeps what is required: it meets it, and a transaction committed
abbrev pub chain_keeps : Requirement → Summary → Bool
chain_keeps requirement s = chain_meets requirement s && s.committed

-- ---- why it doesn't

-- a byte as it is shown to people: one that isn't printable ASCII as `?`
abbrev pub shown_byte : ℕ → ℕ
shown_byte b = cond (nat_le 32 b && nat_le b 126) b 63

abbrev pub shown : List ℕ → List ℕ
shown text = map shown_byte text

-- the most bytes of a name or of a reason that are shown
abbrev pub max_shown : ℕ
max_shown = 200

-- as much of a text as is shown, and what stands for the rest
abbrev pub cut_text : List ℕ → List ℕ → List ℕ
cut_text dots text = cond (nat_lt max_shown (length text)) (shown (take max_shown text) ++ dots) (shown text)

-- a part's name, or as much of it as is shown
abbrev pub shown_name : List ℕ → List ℕ
shown_name name = cut_text (codes "..") name

-- a reason, or as much of it as is shown
abbrev pub cut_reason : List ℕ → List ℕ
cut_reason reason = cut_text (codes " ..") reason

-- whether a part shows it
abbrev pub is_found : Line → Bool
is_found Clear = false
is_found (Unjudged part) = false
is_found (Found part reason) = true

-- the first part that shows a phenomenon of this name, or that wasn't judged
abbrev pub bar_text : List ℕ → Line → List ℕ
bar_text name Clear = []
bar_text name (Unjudged part) = codes ": " ++ name ++ codes " not judged in " ++ shown_name part
bar_text name (Found part reason) = codes ": " ++ name ++ codes " present in " ++ shown_name part

-- of the three that PL-2 excludes, the first that is found
abbrev pub read_bar : Lines → List ℕ
read_bar lines = cond (is_found lines.g1a) (bar_text (codes "G1a") lines.g1a) (cond (is_found lines.g1b) (bar_text (codes "G1b") lines.g1b) (bar_text (codes "G1c") lines.g1c))

-- the part that wasn't judged
abbrev pub unjudged_text : Line → List ℕ
unjudged_text Clear = []
unjudged_text (Unjudged part) = codes ": " ++ shown_name part
unjudged_text (Found part reason) = []

-- the part that isn't sound or doesn't fit, and why
abbrev pub unsound_text : Line → List ℕ
unsound_text Clear = []
unsound_text (Unjudged part) = []
unsound_text (Found part reason) = codes ": " ++ shown_name part ++ codes ": " ++ cut_reason reason

-- behind a level, what keeps the run from the next one
abbrev pub behind_level : Level → Lines → List ℕ
behind_level level.Pl3 lines = codes " found"
behind_level level.Pl299 lines = codes " found" ++ bar_text (codes "G2") lines.g2
behind_level level.Pl2 lines = codes " found" ++ bar_text (codes "G2-item") lines.g2_item
behind_level level.Pl1 lines = codes " found" ++ read_bar lines
behind_level level.NotJudged lines = unjudged_text lines.g0
behind_level level.BelowPl1 lines = codes " found" ++ bar_text (codes "G0") lines.g0
behind_level level.Unsound lines = unsound_text lines.serial

-- what a line about a verdict says
abbrev pub told_verdict : Line → List ℕ
told_verdict Clear = codes "yes"
told_verdict (Unjudged part) = codes "not judged " ++ shown_name part
told_verdict (Found part reason) = codes "no " ++ shown_name part ++ codes ": " ++ cut_reason reason

abbrev pub snapshot_text : Line → List ℕ
snapshot_text line = codes "snapshot: " ++ told_verdict line

-- what was found in place of what is asked for
abbrev pub found_text : Requirement → Summary → List ℕ
found_text Pl1 s = level_name s.level ++ behind_level s.level s.lines
found_text Pl2 s = level_name s.level ++ behind_level s.level s.lines
found_text Pl299 s = level_name s.level ++ behind_level s.level s.lines
found_text Pl3 s = level_name s.level ++ behind_level s.level s.lines
found_text Snapshot s = snapshot_text s.lines.snapshot

-- the same of a run whose ends are these: no part, or no transaction that committed
abbrev pub instead_of : Option Ends → Requirement → Summary → List ℕ
instead_of None requirement s = codes "no part given"
instead_of (Some ends) requirement s = cond s.committed (found_text requirement s) (codes "no transaction committed")

abbrev pub instead_text : Requirement → Summary → List ℕ
instead_text requirement s = instead_of s.ends requirement s

-- what is asked for, and what there is in its place
abbrev pub chain_shortfall : Requirement → Summary → List ℕ
chain_shortfall requirement s = requirement_name requirement ++ codes " asked, " ++ instead_text requirement s
