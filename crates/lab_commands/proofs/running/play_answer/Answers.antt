use Rattle.std.proofs.lemmas.Result.{IfOk-weaker, IfErr-weaker}
use Rattle.lab_commands.proofs.running.play_answer.Goals as goal

pub returns-clause-tells : goal.returns-clause-tells
returns-clause-tells g c =
    IfOk-weaker c.recording_answer.result _ _ (λ answer tells. (c.in_ok-recording.recording, c.in_ok-recording.ensures.play, tells)) c.recording_answer.ensures.tells

pub returns-clause-fault : goal.returns-clause-fault
returns-clause-fault g c =
    IfErr-weaker c.recording_answer.result _ _
    (λ fault untold. g.met.P.Player.untold c.args.player.now c.args.script.now c.in_ok-recording.recording fault c.requires.prints c.in_ok-recording.ensures.play untold) c.recording_answer.ensures.fault
