use Rattle.std.{proofs.Common.{◌≡◌, drop}, specs.FinMap.{is_sorted}}
use Rattle.lab_table.specs.Row.{row_cmp}
use Rattle.lab_history.proofs.Rising.{rises_after}
use Rattle.lab_history.proofs.order.rises.Given as goal

abbrev pub invariant-loop-row : goal.invariant-loop-row
invariant-loop-row g l = rises_after l.before (drop l.row-index l.entries) ≡ is_sorted row_cmp l.entries
