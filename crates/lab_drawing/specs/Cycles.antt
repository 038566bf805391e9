-- The most particular phenomenon of a cycle, and the cycle that a report found for a phenomenon.
use Rattle.std.specs.Prelude.{ℕ, ◌==◌, not, cond, List, []}
use Rattle.lab_deps.specs.declared.edge.Edge.{Edge}
use Rattle.lab_judge.specs.Phenomena.{count_kind, is_write, is_item_anti}
use Rattle.lab_judge.specs.Places.{is_anti}
use Rattle.lab_judge.specs.declared.report.Finding.{Finding}
use Rattle.lab_judge.specs.declared.report.Finding.TheVariants as finding
use Rattle.lab_reports.specs.declared.phenomenon.Phenomenon.{Phenomenon}
use Rattle.lab_reports.specs.declared.phenomenon.Phenomenon.TheVariants.{G0, G1c, GSingle, G2Item, G2}

-- the most particular phenomenon of a cycle with so many anti-dependencies, item anti-dependencies, and dependencies that are no writes after writes
abbrev pub by_counts : ℕ → ℕ → ℕ → Phenomenon
by_counts antis items others = cond (antis == 0) (cond (others == 0) G0 G1c) (cond (antis == 1) GSingle (cond (items == 0) G2 G2Item))

-- the most particular phenomenon that a cycle is
abbrev pub walk_phenomenon : List Edge → Phenomenon
walk_phenomenon walk = by_counts (count_kind is_anti walk) (count_kind is_item_anti walk) (count_kind (λ k. not (is_write k)) walk)

-- the cycle that is found of a phenomenon; no dependencies where none is
abbrev pub cycle_of : Finding → List Edge
cycle_of finding.Absent = []
cycle_of (finding.Walk walk) = walk
cycle_of (finding.At n k row) = []
cycle_of finding.NotJudged = []
