-- The JSON values for a file without a report: refused, with its fault, or unreadable.
--
-- Origin: JSON: RFC 8259; the keys are this project's profile.
use Rattle.std.specs.Prelude.{ℕ, true, Option, Some, List, [], ◌∷◌, codes}
use Rattle.serde_json.specs.Data.{Data, boolean, string}
use Rattle.lab_history.specs.declared.fault.FileFault.{FileFault}
use Rattle.lab_history.specs.declared.fault.FileFault.TheVariants as fault
use Rattle.lab_history.specs.LimitName.{limit_name}
use Rattle.lab_history.specs.PathText.{path_text}
use Rattle.lab_history_file.specs.Tree.{natural_tree}
use Rattle.lab_reports.specs.Tree.{object_of, about}

-- the kind of a fault, in front of what else is told of it
abbrev pub kind_tree : List ℕ → List (List ℕ × Data) → Data
kind_tree kind ms = object_of ((codes "kind", string kind) ∷ ms)

-- a fault of a file; want of memory is none, and is never written
abbrev pub file_fault_tree : FileFault → Data
file_fault_tree fault.NoMemory = kind_tree (codes "NoMemory") []
file_fault_tree fault.NotJson = kind_tree (codes "NotJson") []
file_fault_tree (fault.WrongFormat path) = kind_tree (codes "WrongFormat") ((codes "path", string (path_text path)) ∷ [])
file_fault_tree (fault.WrongVersion number) = kind_tree (codes "WrongVersion") ((codes "version", natural_tree number) ∷ [])
file_fault_tree (fault.RepeatedTxn txn) = kind_tree (codes "RepeatedTxn") ((codes "txn", natural_tree txn) ∷ [])
file_fault_tree (fault.BadStatement txn op) = kind_tree (codes "BadStatement") ((codes "op", natural_tree op) ∷ (codes "txn", natural_tree txn) ∷ [])
file_fault_tree (fault.Unsorted path) = kind_tree (codes "Unsorted") ((codes "path", string (path_text path)) ∷ [])
file_fault_tree (fault.OverLimit which) = kind_tree (codes "OverLimit") ((codes "limit", string (limit_name which)) ∷ [])

-- {refused}
abbrev pub refused_tree : Option (List ℕ) → FileFault → Data
refused_tree file f = about file ((codes "refused", file_fault_tree f) ∷ [])

-- {file, unreadable}
abbrev pub unreadable_tree : List ℕ → Data
unreadable_tree file = about (Some file) ((codes "unreadable", boolean true) ∷ [])
