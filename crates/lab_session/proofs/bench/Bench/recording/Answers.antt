use Rattle.std.{proofs.Common.{◌≡◌, ap, subst, ◌∙◌}, specs.Prelude.{IfErr}}
use Rattle.lab_engine.specs.{Log.{past_of}, Journal.{EngineRun}, OverLimit.{IsRecordFault}}
use Rattle.lab_session.proofs.bench.Bench.recording.Goals as goal

pub returns-clause-fault : goal.returns-clause-fault
returns-clause-fault g c =
    let setup : c.setup.result.now ≡ c.args.self.now.setup = c.setup.ensures ∙ ap (λ (run : EngineRun). run.setup) c.self.view_is in
    let log : c.log.result.now ≡ c.args.self.now.log = c.log.ensures ∙ ap (λ (run : EngineRun). run.log) c.self.view_is in
    subst (λ s. IfErr c.of.result (IsRecordFault s (past_of c.args.self.now.log))) setup
    (subst (λ l. IfErr c.of.result (IsRecordFault c.setup.result.now (past_of l))) log c.of.ensures.fault)
