-- The line that reports why a play has no recording.
use Rattle.std.specs.Prelude.{ℕ, List, [], ◌++◌, codes}
use Rattle.lab_printing.specs.Printed.{newline}
use Rattle.lab_history.specs.LimitName.{limit_name}
use Rattle.lab_session.specs.declared.fault.PlayFault.{PlayFault}
use Rattle.lab_session.specs.declared.fault.PlayFault.TheVariants as fault

-- a line about a play
abbrev pub line_text : List ℕ → List ℕ
line_text said = codes "play: " ++ said ++ newline

-- want of memory has no line
abbrev pub play_fault_text : PlayFault → List ℕ
play_fault_text fault.NoMemory = []
play_fault_text (fault.OverLimit which) = line_text (codes "OverLimit " ++ limit_name which)
play_fault_text (fault.Close unclosed) = line_text (codes "Close")
play_fault_text fault.NoThread = line_text (codes "NoThread")
play_fault_text fault.Full = line_text (codes "Full")
