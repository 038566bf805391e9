-- What may go to another thread.
use denote.Param.Send.{IsSend, IsSync, sendable}
use Rattle.std.proofs.Crossing.{crosses}
use Rattle.lab_table.proofs.predicate.Pred.TheLaws.TheKnot as predicate
use Rattle.lab_table.specs.contracts.statement.Statement as statement
use Rattle.lab_table.specs.contracts.statement.Command as command
use Rattle.lab_script.specs.contracts.script.Line as line
use Rattle.lab_engine.specs.contracts.event.Outcome as outcome
use Rattle.lab_session.specs.contracts.bench.Receipt as receipt
use Rattle.lab_session.specs.contracts.seat.Call as call
use Rattle.lab_session.specs.contracts.seat.Seat as seat
use Rattle.lab_session.specs.contracts.free.Ended as ended

statement_send : IsSend (statement.the_field).row
statement_send = search (sendable, crosses, predicate.crosses) depth 40 fits 20000

command_send : IsSend (command.the_field).row
command_send = search (sendable, crosses, statement_send) depth 30

outcome_send : IsSend (outcome.the_field).row
outcome_send = search (sendable, crosses) depth 40 fits 20000

receipt_send : IsSend (receipt.the_field).row
receipt_send = search (sendable, outcome_send) depth 30

call_send : IsSend call.the_row
call_send = search (sendable, command_send, receipt_send) depth 30

-- a seat
pub seat_send : IsSend seat.the_row
seat_send = search (sendable, crosses, call_send, command_send) depth 30

-- what a session's thread gives back
pub ended_send : IsSend ended.the_row
ended_send = search (sendable, crosses, seat_send) depth 30

statement_sync : IsSync (statement.the_field).row
statement_sync = search (sendable, crosses, predicate.crosses) depth 40 fits 20000

command_sync : IsSync (command.the_field).row
command_sync = search (sendable, crosses, statement_sync) depth 30

-- a line
pub line_sync : IsSync line.the_row
line_sync = search (sendable, crosses, command_sync) depth 30
