use Rattle.std.{proofs.Common.{◌≡◌, None, drop}, specs.FinMap.{entries}}
use Rattle.lab_deps.specs.{FirstOf.{first_entry, least_of}, Meetings.{installs_next}}
use Rattle.lab_deps.proofs.least.least_step.Given as goal

-- the row so far and the operations that are left give the least of all
abbrev pub invariant-loop-op : goal.invariant-loop-op
invariant-loop-op l =
    least_of (λ op. first_entry (installs_next l.history l.from l.to) (entries op.writes)) l.row (drop l.op-index l.ops)
    ≡ least_of (λ op. first_entry (installs_next l.history l.from l.to) (entries op.writes)) None l.ops
