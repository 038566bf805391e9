use Rattle.std.proofs.Common.{◌≡◌, ◌++◌, drop}
use Rattle.lab_deps.specs.Meetings.{named_in}
use Rattle.lab_deps.proofs.written.add_rows.Given as goal

abbrev pub invariant-loop-row : goal.invariant-loop-row
invariant-loop-row l = l.rows.items ++ named_in (drop l.row-index l.entries) ≡ l.initial.rows.items ++ named_in l.entries
