-- Which bytes are a file of which history, and which fault they have.
use Rattle.std.specs.Prelude.{◌≡◌, ℕ, ◌≤◌, ◌<◌, List, length, Err}
use Rattle.serde_json.specs.Data.{Data}
use Rattle.lab_history.specs.History.{History}
use Rattle.lab_history.specs.Limits.{max_file_bytes}
use Rattle.lab_history.specs.declared.fault.FileFault.{FileFault}
use Rattle.lab_history.specs.declared.fault.FileFault.TheVariants.{NotJson, OverLimit}
use Rattle.lab_history.specs.declared.fault.Limit.TheVariants.{Bytes}
use Rattle.lab_history_file.specs.FileRead.{IsTextOf, IsNoText}
use Rattle.lab_history_file.specs.FileOf.{IsFileOf}
use Rattle.lab_history_file.specs.Format.{history_in}

-- the bytes are a file of the history
pub record HoldsHistory (bytes : List ℕ) (history : History) : Type 0 where
  pub short : length bytes ≤ max_file_bytes
  pub tree : Data
  pub spelled : IsTextOf bytes tree
  pub held : IsFileOf tree history

-- bytes that aren't too many have a fault: they are the text of no value, or of one that has this fault first
pub data IsFormatFault (bytes : List ℕ) (fault : FileFault) : Type 0 where
  no_text : IsNoText bytes → fault ≡ NotJson → IsFormatFault bytes fault
  no_history : (tree : Data) → IsTextOf bytes tree → history_in tree ≡ Err fault → IsFormatFault bytes fault

-- the fault is the first that the bytes have
pub data IsFileFault (bytes : List ℕ) (fault : FileFault) : Type 0 where
  too_long : max_file_bytes < length bytes → fault ≡ OverLimit Bytes → IsFileFault bytes fault
  of_format : length bytes ≤ max_file_bytes → IsFormatFault bytes fault → IsFileFault bytes fault
