use Rattle.std.proofs.Common.{rules}
use Rattle.lab_judge.proofs.many.judged.Goals as goal

pub returns-in-Err : goal.returns-in-Err
returns-in-Err c = c.in-Err.ensures.fault (search rules)
