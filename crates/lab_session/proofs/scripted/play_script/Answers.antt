use Rattle.std.proofs.Common.{List, sym, ap, subst, ◌∙◌}
use Rattle.lab_script.specs.declared.script.Line.{Line}
use Rattle.lab_engine.specs.{Log.{past_of}, OverLimit.{IsRecordFault}}
use Rattle.lab_session.{specs.Play.{given_lines, unclosed_fault, IsLegalPlay, IsScriptedFault}, proofs.Closings.{unrecorded_play_is}}
use Rattle.lab_session.proofs.scripted.play_script.Goals as goal

pub returns-in-Err-into_recording-clause-fault : goal.returns-in-Err-into_recording-clause-fault
returns-in-Err-into_recording-clause-fault g c =
    let level = g.E.Engine.kind c.args.engine in
    let setup = g.E.Engine.opening c.args.engine in
    let lines = given_lines c.args.script.now.lines in
    let run = c.play_lines.new.bench in
    let fault = c.in-Err-into_recording.fault in
    let played : IsLegalPlay level setup lines run.log =
    subst (λ l. IsLegalPlay l setup lines run.log) c.new-bench.ensures.level
    (subst (λ s. IsLegalPlay c.new-bench.result.level s lines run.log) c.new-bench.ensures.setup
    (subst (λ (l : List Line). IsLegalPlay c.new-bench.result.level c.new-bench.result.setup (given_lines l) run.log) c.as_slice.ensures c.in_default.ensures.scripted)) in
    let told = subst (λ s. IsRecordFault s (past_of run.log) fault) (c.play_lines.ensures.setup ∙ c.new-bench.ensures.setup) c.in-Err-into_recording.ensures.fault in
    subst (IsScriptedFault level setup lines) (sym (c.unclosed.ensures ∙ ap unclosed_fault c.unrecorded.ensures))
    (unrecorded_play_is level setup lines run.log played fault told)
