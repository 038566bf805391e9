-- What the refusals of a run's end say.
use Rattle.std.proofs.Common.{ℕ, List}
use Rattle.lab_table.specs.Table.{Table}
use Rattle.lab_engine.specs.{declared.{event.{Level.{Level}, LogEvent.{LogEvent}}, recording.RecordFault.{RecordFault}}, Log.{past_of}, Journal.{EngineRun}, Recording.{Line}, OverLimit.{IsRecordFault}}
use Rattle.lab_engine.specs.declared.recording.RecordFault.TheVariants as record_fault
use Rattle.lab_session.specs.{Play.{IsLegalPlay, IsScriptedFault, unclosed_fault}, Seats.{Seated}, Closing.{AreClosed, IsCloseFault, close_fault_of}}

-- a log without a recording isn't closed
pub unrecorded_is : (sessions : ℕ) (run : EngineRun) (seats : List Seated) (fault : RecordFault) → AreClosed sessions run.log seats → IsRecordFault run.setup (past_of run.log) fault
    → IsCloseFault sessions run seats (close_fault_of fault)
unrecorded_is sessions run seats record_fault.NoMemory closed h = tt
unrecorded_is sessions run seats (record_fault.OverLimit which) closed h = (closed, h)

-- a play by one thread has no recording where its log breaks a limit
pub unrecorded_play_is : (level : Level) (setup : Table) (lines : List Line) (log : List LogEvent) → IsLegalPlay level setup lines log
    → (fault : RecordFault) → IsRecordFault setup (past_of log) fault → IsScriptedFault level setup lines (unclosed_fault (close_fault_of fault))
unrecorded_play_is level setup lines log play record_fault.NoMemory h = tt
unrecorded_play_is level setup lines log play (record_fault.OverLimit which) h = (log, play, h)
