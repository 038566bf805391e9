-- What reading bytes that aren't too many comes to: the history that they hold, or their first fault.
use Rattle.std.{proofs.Common.{◌≢◌, ⊎_elim, ℕ, ◌≤◌, List, length, Result, Ok, Err, IfErr}, specs.Prelude.{IfOk}}
use Rattle.lab_history.specs.{History.{History}, Limits.{max_file_bytes}, declared.fault.FileFault.{FileFault, TheVariants.{NoMemory}}}
use Rattle.lab_history_file.{specs.{FileRead.{ReadsAs}, Format.{history_in}, HistoryFile.{HoldsHistory, IsFileFault, no_text, no_history, of_format}}, proofs.ReadIsFile.{read_is_file}}

module _ (bytes : List ℕ) (short : length bytes ≤ max_file_bytes) where
  pub what_is_read_is_held : (result : Result History FileFault) → ReadsAs history_in bytes result → IfOk result (HoldsHistory bytes)
  what_is_read_is_held (Ok history) (tree, spelled, held) = record { short = short; tree = tree; spelled = spelled; held = read_is_file tree history held }
  what_is_read_is_held (Err fault) reads = tt

  pub what_is_told_is_first : (result : Result History FileFault) → ReadsAs history_in bytes result → IfErr result (λ fault. fault ≢ NoMemory → IsFileFault bytes fault)
  what_is_told_is_first (Ok history) reads = tt
  what_is_told_is_first (Err fault) reads = λ real.
      of_format short (⊎_elim (λ none. absurd (real none)) (⊎_elim (λ no. no_text no.1 no.0) (λ found. no_history found.0 found.1 found.2)) reads)
