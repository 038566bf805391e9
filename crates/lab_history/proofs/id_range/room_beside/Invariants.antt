use Rattle.std.{proofs.Common.{◌≡◌, ◌+◌, take}, specs.List.{sum_by}}
use Rattle.lab_history.specs.IdRanges.{rows_in}
use Rattle.lab_history.proofs.id_range.room_beside.Given as goal

abbrev pub invariant-loop-range : goal.invariant-loop-range
invariant-loop-range l = l.room + sum_by rows_in (take l.range-index l.ranges) ≡ 1000
