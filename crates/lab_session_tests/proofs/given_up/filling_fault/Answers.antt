-- The engine may be handed to another thread, which the prover doesn't find alone.
use denote.Param.Send.{sendable}
use Rattle.lab_engine.proofs.Crosses.{journal}
use Rattle.lab_session_tests.proofs.given_up.filling_fault.Goals as goal

pub play_instrumented-requires-send-E : goal.play_instrumented-requires-send-E
play_instrumented-requires-send-E g c = search (sendable, journal)
