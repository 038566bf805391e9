-- The engine may be handed to another thread, which the prover doesn't find alone.
use denote.Param.Send.{sendable}
use Rattle.lab_engine.proofs.Crosses.{journal}
use Rattle.lab_session_tests.proofs.starts.played.Goals as goal

pub play_free-requires-send-E : goal.play_free-requires-send-E
play_free-requires-send-E g c = search (sendable, journal)
