use Rattle.std.proofs.Common.{◌≡◌, None, drop}
use Rattle.lab_deps.specs.{FirstOf.{first_row, least_of}, Meetings.{meets}}
use Rattle.lab_deps.proofs.least.least_among.Given as goal

-- the row so far and the operations that are left give the least of all
abbrev pub invariant-loop-op : goal.invariant-loop-op
invariant-loop-op l =
    least_of (λ op. first_row (meets l.history l.kind l.installer l.reader op) l.rows) l.row (drop l.op-index l.ops)
    ≡ least_of (λ op. first_row (meets l.history l.kind l.installer l.reader op) l.rows) None l.ops
