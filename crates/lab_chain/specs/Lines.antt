-- One line of the report on a run in parts, and how the lines of two pieces are joined.
use Rattle.std.specs.Prelude.{ℕ}
use Rattle.lab_chain.specs.Heavier.{heavier}
use Rattle.lab_chain.specs.declared.line.Line.{Line}
use Rattle.lab_chain.specs.declared.line.Line.TheVariants.{Clear, Unjudged, Found}

-- how much a line says: that something is found weighs more than that it wasn't judged
abbrev pub line_weight : Line → ℕ
line_weight Clear = 0
line_weight (Unjudged part) = 1
line_weight (Found part reason) = 2

-- what is said of two pieces of a run, one behind the other: what weighs more, and of the same weight the first
abbrev pub line_joined : Line → Line → Line
line_joined a b = heavier line_weight a b
