use denote.Param.Send.{sendable}
use Rattle.lab_engine.proofs.Crosses.{journal}
use Rattle.lab_session_tests.proofs.meeting.played.Goals as goal

-- src/meeting.rt:53:24
pub play_free-requires-send-E : goal.play_free-requires-send-E
play_free-requires-send-E c κs = search (sendable, journal)
