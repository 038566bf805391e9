use Rattle.std.proofs.Common.{◌≡◌, ◌++◌, drop, filter}
use Rattle.lab_drawing.specs.Forks.{splits}
use Rattle.lab_drawing.proofs.forks.split_among.Given as goal

-- what is found so far, and what is left
abbrev pub invariant-loop-row : goal.invariant-loop-row
invariant-loop-row l =
    l.found.items ++ filter (splits l.history l.writer l.saw l.missed) (drop l.row-index l.rows) ≡ filter (splits l.history l.writer l.saw l.missed) l.rows
