use Rattle.lab_engine.specs.Asker.{seen_in}
use Rattle.lab_engine.proofs.answer.unblocked.Goals as goal

pub returns-in_ok-refusal-in-Err : goal.returns-in_ok-refusal-in-Err
returns-in_ok-refusal-in-Err c = c.in_ok-refusal-in-Err.ensures (seen_in c.args.asker.now) c.args.statement.now c.in-Err.ensures.fault
