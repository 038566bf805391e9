-- The output for an input that is no script, and for a play that was refused, in lines or in JSON.
use Rattle.std.specs.Prelude.{◌≡◌, ℕ, List, [], ◌∷◌, codes}
use Rattle.serde_json.specs.Data.{Data, string}
use Rattle.lab_statement.specs.Fault.{fault_text, kind_name}
use Rattle.lab_statement.specs.declared.fault.ScriptFault.{ScriptFault}
use Rattle.lab_statement.specs.declared.fault.ScriptFault.TheVariants as fault
use Rattle.lab_statement.specs.declared.fault.ScriptFaultKind.{ScriptFaultKind}
use Rattle.lab_script.specs.Fault.{IsFaultOf}
use Rattle.lab_history.specs.LimitName.{limit_name}
use Rattle.lab_history_file.specs.Tree.{natural_tree}
use Rattle.lab_session.specs.PlayFaultText.{play_fault_text}
use Rattle.lab_session.specs.declared.fault.PlayFault.{PlayFault}
use Rattle.lab_session.specs.declared.fault.PlayFault.TheVariants as play_fault
use Rattle.lab_reports.specs.RefusalTree.{kind_tree}
use Rattle.lab_reports.specs.Tree.{object_of, line_of}
use Rattle.lab_streams.specs.declared.ending.Ending.{Ending}
use Rattle.lab_streams.specs.declared.ending.Ending.TheVariants.{Refused}
use Rattle.lab_streams.specs.declared.reporting.Format.{Format}
use Rattle.lab_streams.specs.declared.reporting.Format.TheVariants.{Lines, Json}

-- {refused}
abbrev pub refused_object : Data → Data
refused_object fault = object_of ((codes "refused", fault) ∷ [])

-- {kind, line}; want of memory is none, and is never written
abbrev pub script_fault_tree : ScriptFault → Data
script_fault_tree fault.NoMemory = kind_tree (codes "NoMemory") []
script_fault_tree (fault.At line kind) = kind_tree (kind_name kind) ((codes "line", natural_tree line) ∷ [])

-- {kind}, and of a limit {kind, limit}
abbrev pub play_fault_tree : PlayFault → Data
play_fault_tree play_fault.NoMemory = kind_tree (codes "NoMemory") []
play_fault_tree (play_fault.OverLimit which) = kind_tree (codes "OverLimit") ((codes "limit", string (limit_name which)) ∷ [])
play_fault_tree (play_fault.Close fault) = kind_tree (codes "Close") []
play_fault_tree play_fault.NoThread = kind_tree (codes "NoThread") []
play_fault_tree play_fault.Full = kind_tree (codes "Full") []

-- what is said of the fault of a script
abbrev pub script_refused_text : Format → ScriptFault → List ℕ
script_refused_text Lines fault = fault_text fault
script_refused_text Json fault = line_of (refused_object (script_fault_tree fault))

-- what is said of a play that was refused
abbrev pub play_refused_text : Format → PlayFault → List ℕ
play_refused_text Lines fault = play_fault_text fault
play_refused_text Json fault = line_of (refused_object (play_fault_tree fault))

-- the input has a fault, and the text tells it
pub record IsRefused (format : Format) (input text : List ℕ) (ending : Ending) : Type 0 where
  pub line : ℕ
  pub kind : ScriptFaultKind
  pub faulty : IsFaultOf input (fault.At line kind)
  pub text_is : text ≡ script_refused_text format (fault.At line kind)
  pub refused : ending ≡ Refused
