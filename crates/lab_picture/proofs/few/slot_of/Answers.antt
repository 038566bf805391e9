use Rattle.std.proofs.Common.{arith}
use Rattle.lab_picture.{specs.Few.{is_kept}, proofs.DrawnCounts.{count_all}}
use Rattle.lab_picture.proofs.few.slot_of.Goals as goal

pub overflow_add-found : goal.overflow_add-found
overflow_add-found c = omega (arith, count_all (is_kept c.args.few c.args.arrows.now c.args.txn c.args.marked) c.loop-before.before)
