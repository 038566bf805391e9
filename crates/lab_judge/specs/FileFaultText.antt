-- The line that reports why a file is no history.
use Rattle.std.specs.Prelude.{ℕ, List, [], ◌++◌, codes}
use Rattle.std.specs.Fmt.{decimal}
use Rattle.lab_printing.specs.Printed.{newline}
use Rattle.lab_history.specs.declared.fault.FileFault.{FileFault}
use Rattle.lab_history.specs.declared.fault.FileFault.TheVariants as fault
use Rattle.lab_history.specs.LimitName.{limit_name}
use Rattle.lab_history.specs.PathText.{path_text}

-- a line about a file
abbrev pub line_text : List ℕ → List ℕ
line_text said = codes "file: " ++ said ++ newline

-- want of memory has no line
abbrev pub file_fault_text : FileFault → List ℕ
file_fault_text fault.NoMemory = []
file_fault_text fault.NotJson = line_text (codes "NotJson")
file_fault_text (fault.WrongFormat path) = line_text (codes "WrongFormat " ++ path_text path)
file_fault_text (fault.WrongVersion number) = line_text (codes "WrongVersion " ++ decimal number)
file_fault_text (fault.RepeatedTxn txn) = line_text (codes "RepeatedTxn " ++ decimal txn)
file_fault_text (fault.BadStatement txn op) = line_text (codes "BadStatement T" ++ decimal txn ++ codes " op " ++ decimal op)
file_fault_text (fault.Unsorted path) = line_text (codes "Unsorted " ++ path_text path)
file_fault_text (fault.OverLimit which) = line_text (codes "OverLimit " ++ limit_name which)
