-- The titles of drawings: a phenomenon with its textbook name or its cycle's nicknames, and the words for faults.
--
-- Origin: names of phenomena: Adya, Liskov and O'Neil, "Generalized Isolation Level Definitions" (2000).
use Rattle.std.specs.Prelude.{ℕ, List, [], ◌∷◌, ◌++◌, flat_map, codes}
use Rattle.std.specs.Fmt.{decimal}
use Rattle.lab_history.specs.History.{History}
use Rattle.lab_deps.specs.declared.edge.Edge.{Edge}
use Rattle.lab_deps.specs.FaultKinds.{op_entry, row_entry, parts_of}
use Rattle.lab_deps.specs.declared.fault.FaultParts.{FaultParts}
use Rattle.lab_deps.specs.declared.fault.FaultParts.TheVariants as parts
use Rattle.lab_deps.specs.declared.fault.LocalFault.{LocalFault}
use Rattle.lab_deps.specs.declared.kind.OpFault.{OpFault}
use Rattle.lab_deps.specs.declared.kind.OpFault.TheVariants as kind
use Rattle.lab_deps.specs.declared.kind.RowFault.{RowFault}
use Rattle.lab_deps.specs.declared.kind.RowFault.TheVariants as row_kind
use Rattle.lab_judge.specs.declared.report.Finding.{Finding}
use Rattle.lab_judge.specs.declared.report.Finding.TheVariants as finding
use Rattle.lab_judge.specs.declared.serial.Serial.{Serial}
use Rattle.lab_judge.specs.declared.serial.Serial.TheVariants as serial
use Rattle.lab_reports.specs.Phenomena.{phenomenon_name}
use Rattle.lab_reports.specs.declared.phenomenon.Phenomenon.{Phenomenon}
use Rattle.lab_reports.specs.declared.phenomenon.Phenomenon.TheVariants.{G0, G1a, G1b, G1c, GSingle, G2Item, G2}
use Rattle.lab_drawing.specs.Cycles.{walk_phenomenon, cycle_of}
use Rattle.lab_drawing.specs.Nicknames.{nicknames_of, in_parentheses}

-- what stands behind a phenomenon's code: the name that it has in textbooks, or the nicknames of the cycle by which it is present
abbrev pub words_behind : History → Phenomenon → List Edge → List ℕ
words_behind h G0 walk = codes " (dirty write)"
words_behind h G1a walk = codes " (aborted read)"
words_behind h G1b walk = codes " (intermediate read)"
words_behind h G1c walk = codes " (circular information flow)"
words_behind h GSingle walk = in_parentheses (nicknames_of h walk)
words_behind h G2Item walk = in_parentheses (nicknames_of h walk)
words_behind h G2 walk = in_parentheses (nicknames_of h walk)

-- a phenomenon that is present by this cycle, or by no cycle where there are no dependencies
abbrev pub full_name : History → Phenomenon → List Edge → List ℕ
full_name h p walk = phenomenon_name p ++ words_behind h p walk

-- a transaction behind another
abbrev pub next_text : ℕ → List ℕ
next_text n = codes ", T" ++ decimal n

-- transactions with a comma and a blank between two of them
abbrev pub txns_text : List ℕ → List ℕ
txns_text [] = codes "no committed transaction"
txns_text (n ∷ ns) = codes "T" ++ decimal n ++ flat_map next_text ns

-- what is wrong at an operation and a row where a fault of a kind is
abbrev pub op_fault_words : OpFault → List ℕ
op_fault_words kind.Dangling = codes "Not sound: a version is seen that isn't there"
op_fault_words kind.AbortedRead = codes "Aborted read, G1a"
op_fault_words kind.IntermediateRead = codes "Intermediate read, G1b"
op_fault_words kind.OwnWriteMissed = codes "Not sound: an own write isn't seen"
op_fault_words kind.LaterThanOwn = codes "Not sound: a version behind the own one is seen"
op_fault_words kind.RowsDiffer = codes "Not sound: rows differ from what the statement lists"
op_fault_words kind.WritesDiffer = codes "Not sound: writes differ from what the statement makes"

-- who is at fault, where that isn't the record alone: a database makes aborted and intermediate reads too
abbrev pub at_fault : OpFault → List ℕ
at_fault kind.Dangling = []
at_fault kind.AbortedRead = codes ": record or database is at fault"
at_fault kind.IntermediateRead = codes ": record or database is at fault"
at_fault kind.OwnWriteMissed = []
at_fault kind.LaterThanOwn = []
at_fault kind.RowsDiffer = []
at_fault kind.WritesDiffer = []

-- the same at a row alone
abbrev pub row_fault_words : RowFault → List ℕ
row_fault_words row_kind.InstallOrder = codes "Not sound: installers differ from the committed writers"
row_fault_words row_kind.EndDiffers = codes "Not sound: the end differs from what was installed"

-- what is wrong, and a fault's code behind it
abbrev pub with_code : List ℕ → List ℕ → List ℕ
with_code words code = words ++ codes " (" ++ code ++ codes ")"

-- what is wrong with a history, the fault's code, and who may be at fault
abbrev pub words_of : FaultParts → List ℕ
words_of (parts.Operation kind n k row) = with_code (op_fault_words kind) (op_entry kind).code ++ at_fault kind
words_of (parts.Row kind row) = with_code (row_fault_words kind) (row_entry kind).code

abbrev pub fault_words : LocalFault → List ℕ
fault_words f = words_of (parts_of f)

-- the title of a serial verdict
abbrev pub serial_title : History → Serial → List ℕ
serial_title h (serial.Yes order) = codes "Serializable: " ++ txns_text order
serial_title h (serial.NoFault f) = fault_words f
serial_title h (serial.NoCycle walk) = codes "Not serializable: " ++ full_name h (walk_phenomenon walk) walk

-- what is found, in a word
abbrev pub finding_word : Finding → List ℕ
finding_word finding.Absent = codes ": absent"
finding_word (finding.Walk walk) = codes ": present"
finding_word (finding.At n k row) = codes ": present"
finding_word finding.NotJudged = codes ": not judged"

-- the title of what is found of a phenomenon
abbrev pub finding_title : History → Phenomenon → Finding → List ℕ
finding_title h p found = full_name h p (cycle_of found) ++ finding_word found
