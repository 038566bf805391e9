use Rattle.std.{proofs.{Common.{arith, ap}, lemmas.List.{take_all}}, specs.List.{sum_by}}
use Rattle.lab_history.specs.IdRanges.{rows_in}
use Rattle.lab_history.proofs.id_range.room_beside.Goals as goal

pub returns : goal.returns
returns c = omega (arith, ap (sum_by rows_in) (take_all c.loop-range.range-index c.args.ranges.now (omega arith)))
