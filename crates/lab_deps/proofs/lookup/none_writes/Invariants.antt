use Rattle.std.proofs.Common.{◌≡◌, None, drop}
use Rattle.lab_history.specs.Version.{last_write}
use Rattle.lab_deps.proofs.lookup.none_writes.Given as goal

-- where none that are left writes the row none does
abbrev pub invariant-loop-op : goal.invariant-loop-op
invariant-loop-op l = last_write (drop l.op-index l.ops) l.row ≡ None → last_write l.ops l.row ≡ None
