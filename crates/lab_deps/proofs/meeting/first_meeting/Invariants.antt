use Rattle.std.proofs.Common.{◌≡◌, drop}
use Rattle.lab_deps.specs.{FirstOf.{first_row}, Meetings.{meets}}
use Rattle.lab_deps.proofs.meeting.first_meeting.Given as goal

-- the row is found among those that are left as among all
abbrev pub invariant-loop-row : goal.invariant-loop-row
invariant-loop-row l =
    first_row (meets l.history l.kind l.installer l.reader l.op) (drop l.row-index l.rows) ≡ first_row (meets l.history l.kind l.installer l.reader l.op) l.rows
