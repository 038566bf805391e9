-- The JSON values of refusals have no float.
use Rattle.std.proofs.Common.{◌≡◌, false, refl}
use Rattle.serde_json.specs.Written.{has_float}
use Rattle.lab_statement.specs.declared.fault.ScriptFault.{ScriptFault}
use Rattle.lab_statement.specs.declared.fault.ScriptFault.TheVariants as fault
use Rattle.lab_session.specs.declared.fault.PlayFault.{PlayFault}
use Rattle.lab_session.specs.declared.fault.PlayFault.TheVariants as play_fault
use Rattle.lab_commands.specs.Refusals.{refused_object, script_fault_tree, play_fault_tree}

pub script_fault_whole : (f : ScriptFault) → has_float (refused_object (script_fault_tree f)) ≡ false
script_fault_whole fault.NoMemory = refl
script_fault_whole (fault.At line kind) = refl

pub play_fault_whole : (f : PlayFault) → has_float (refused_object (play_fault_tree f)) ≡ false
play_fault_whole play_fault.NoMemory = refl
play_fault_whole (play_fault.OverLimit which) = refl
play_fault_whole (play_fault.Close unclosed) = refl
play_fault_whole play_fault.NoThread = refl
play_fault_whole play_fault.Full = refl
