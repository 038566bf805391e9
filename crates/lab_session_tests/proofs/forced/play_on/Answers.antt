-- Each engine may be handed to another thread, which the prover doesn't find alone.
use denote.Param.Send.{sendable}
use Rattle.lab_engine.proofs.Crosses.{journal}
use Rattle.lab_session_tests.proofs.forced.play_on.Goals as goal

pub play_instrumented-requires-send-E : goal.play_instrumented-requires-send-E
play_instrumented-requires-send-E g c κs = search (sendable, journal)

pub play_instrumented-requires-2-send-E : goal.play_instrumented-requires-2-send-E
play_instrumented-requires-2-send-E g c κs = search (sendable, journal)

pub play_instrumented-requires-3-send-E : goal.play_instrumented-requires-3-send-E
play_instrumented-requires-3-send-E g c κs = search (sendable, journal)

pub play_instrumented-requires-4-send-E : goal.play_instrumented-requires-4-send-E
play_instrumented-requires-4-send-E g c κs = search (sendable, journal)
