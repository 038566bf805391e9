-- The program's exit status for each ending and each fault.
use Rattle.std.specs.Prelude.{ℕ}
use Rattle.lab_streams.specs.declared.ending.Ending.{Ending}
use Rattle.lab_streams.specs.declared.ending.Ending.TheVariants.{Done, Unmet, Refused}
use Rattle.lab_streams.specs.declared.ending.RunFault.{RunFault}
use Rattle.lab_streams.specs.declared.ending.RunFault.TheVariants.{NoMemory, Unread, Unwritten}

-- the status of a run whose text was written
abbrev pub ending_status : Ending → ℕ
ending_status Done = 0
ending_status Unmet = 1
ending_status Refused = 2

-- the status of a run that wrote no text, or not all of it
abbrev pub fault_status : RunFault → ℕ
fault_status NoMemory = 4
fault_status Unread = 3
fault_status Unwritten = 3
