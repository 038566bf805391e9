use Rattle.std.proofs.Common.{◌≡◌, ◌++◌, drop}
use Rattle.lab_drawing.specs.Reads.{newer_rows}
use Rattle.lab_drawing.proofs.reads.newer_rows.Given as goal

-- what is found so far, and what is left
abbrev pub invariant-loop-row : goal.invariant-loop-row
invariant-loop-row l = l.found.items ++ newer_rows l.history l.reader l.writer (drop l.row-index l.rows) ≡ newer_rows l.history l.reader l.writer l.rows
