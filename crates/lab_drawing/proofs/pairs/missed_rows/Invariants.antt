use Rattle.std.proofs.Common.{◌≡◌, ◌++◌, drop, filter}
use Rattle.lab_drawing.specs.Pairs.{misses}
use Rattle.lab_drawing.proofs.pairs.missed_rows.Given as goal

-- what is found so far, and what is left
abbrev pub invariant-loop-row : goal.invariant-loop-row
invariant-loop-row l = l.found.items ++ filter (misses l.history l.from l.to) (drop l.row-index l.rows) ≡ filter (misses l.history l.from l.to) l.rows
