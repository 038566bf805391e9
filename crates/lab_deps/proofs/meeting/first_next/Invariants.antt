use Rattle.std.proofs.Common.{◌≡◌, drop}
use Rattle.lab_deps.specs.{FirstOf.{first_entry}, Meetings.{installs_next}}
use Rattle.lab_deps.proofs.meeting.first_next.Given as goal

-- the row is found among the entries that are left as among all
abbrev pub invariant-loop-entry : goal.invariant-loop-entry
invariant-loop-entry g l = first_entry (installs_next l.history l.from l.to) (drop l.entry-index l.written) ≡ first_entry (installs_next l.history l.from l.to) l.written
