use Rattle.std.{proofs.Common.{subst}, specs.Prelude.{IfErr}}
use Rattle.lab_engine.specs.{Log.{past_of}, Journal.{EngineRun}, OverLimit.{IsRecordFault}}
use Rattle.lab_session.proofs.bench.Bench.into_recording.Goals as goal

pub returns-clause-fault : goal.returns-clause-fault
returns-clause-fault g c =
    subst (λ (run : EngineRun). IfErr c.into_recording.result (IsRecordFault run.setup (past_of run.log))) c.self.view_is c.into_recording.ensures.fault
