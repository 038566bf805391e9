-- The lab and a seat may be handed to another thread, which the prover doesn't find alone.
use denote.RattleType.{RattleType}
use denote.Param.Send.{IsSend, IsSync, sendable}
use denote.Param.SendFields.{declared_send}
use mir.Syntax.{Dict}
use Rattle.std.proofs.Crossing.{crosses}
use Rattle.lab_table.proofs.number.Session.TheSendSync as session
use Rattle.lab_table.proofs.predicate.Pred.TheLaws.TheKnot as predicate
use Rattle.lab_table.specs.contracts.statement.Command as Command
use Rattle.lab_engine.proofs.event.Outcome.TheSendSync as outcome
use Rattle.lab_engine.{specs.declared.engine.Engine.{Ghosts as Engine}, proofs.Crosses.{journal}}
use Rattle.lab_session.specs.contracts.bench.Receipt as Receipt
use Rattle.lab_session.specs.contracts.lab.Lab as Lab
use Rattle.lab_session.proofs.lab.Lab.TheSendSync as lab_sync
use Rattle.lab_session.specs.contracts.seat.Call as Call
use Rattle.lab_session.specs.contracts.seat.Seat as Seat
use Rattle.lab_session.specs.contracts.seat.Seat.TheInside as SeatInside
use Rattle.lab_session_tests.specs.contracts.instrumented.Instrumented as Instrumented
use Rattle.lab_session_tests.specs.contracts.instrumented.InstrumentedEngine.TheImpl as impl
use Rattle.lab_session_tests.proofs.goes_on.a_command_whose_retry_had_no_memory_goes_on.Goals as goal

-- a lab of an instrumented engine, where the engine may be handed to another thread
module _ (E : RattleType) (engine : Engine E.Denot) (dict : Dict) where
  instrumented : IsSend E → IsSend (Instrumented.the_row E)
  instrumented e = declared_send (Instrumented.the_type E) (search (sendable, e), (search (sendable, crosses, session.the_send) depth 40, (search (sendable, crosses) depth 40, tt)))

  lab : IsSend E → IsSync (Lab.the_row (Instrumented.the_row E) (impl.ghosts E engine dict))
  lab e = lab_sync.the_sync (Instrumented.the_row E) (impl.ghosts E engine dict) (instrumented e)

command : IsSend Command.the_row
command = search (sendable, crosses, predicate.crosses) depth 40 fits 20000

receipt : IsSend Receipt.the_row
receipt = declared_send Receipt.the_type (search sendable, (search (sendable, outcome.the_send), tt))

call : IsSend Call.the_row
call = declared_send Call.the_type (search (sendable, command), (search (sendable, receipt), tt))

seat_inside : IsSend (SeatInside.the_row)
seat_inside = declared_send SeatInside.the_type (search (sendable, session.the_send), (search (sendable, crosses, call) depth 40, (search (sendable, crosses, command) depth 40, tt)))

seat : IsSend Seat.the_row
seat = search (sendable, seat_inside)

pub join-ours-requires-send-F : goal.join-ours-requires-send-F
join-ours-requires-send-F g c κs within = search (sendable, crosses, journal, lab, seat) depth 40 fits 20000

pub join-ours-requires-send-A : goal.join-ours-requires-send-A
join-ours-requires-send-A g c κs within = search (sendable, crosses, seat) depth 40 fits 20000
