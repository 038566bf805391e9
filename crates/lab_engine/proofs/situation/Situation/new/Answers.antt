use Rattle.lab_engine.proofs.{Common.{DescribesAll, rules, []}, States.{all_idle}}
use Rattle.lab_engine.proofs.situation.Situation.new.Goals as goal

pub returns-clause-is : goal.returns-clause-is
returns-clause-is c level = let idle : DescribesAll level [] c.idle_sessions.result = all_idle level c.idle_sessions.result c.idle_sessions.ensures.waits c.idle_sessions.ensures.running in search rules
