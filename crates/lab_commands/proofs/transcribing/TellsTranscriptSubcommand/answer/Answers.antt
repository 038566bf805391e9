use Rattle.std.proofs.Common.{inl, refl}
use Rattle.lab_commands.proofs.transcribing.TellsTranscriptSubcommand.answer.Goals as goal

pub returns-in_ok-transcript_of-in-Ok : goal.returns-in_ok-transcript_of-in-Ok
returns-in_ok-transcript_of-in-Ok c =
    inl (record { script = c.in-Ok.script; spelled = c.in-Ok.ensures.found; text_is = c.in_ok-transcript_of-in-Ok.ensures; done = refl })
