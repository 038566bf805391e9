use denote.Param.Send.{sendable}
use Rattle.lab_engine.proofs.Crosses.{journal}
use Rattle.lab_matrix_tests.proofs.promised.played.Goals as goal

pub play_free-requires-send-E : goal.play_free-requires-send-E
play_free-requires-send-E c κs = search (sendable, journal)

pub play_free-requires-2-send-E : goal.play_free-requires-2-send-E
play_free-requires-2-send-E c κs = search (sendable, journal)

pub play_free-requires-3-send-E : goal.play_free-requires-3-send-E
play_free-requires-3-send-E c κs = search (sendable, journal)

pub play_free-requires-4-send-E : goal.play_free-requires-4-send-E
play_free-requires-4-send-E c κs = search (sendable, journal)
