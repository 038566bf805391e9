-- Lemmas: a fact about the part of an input that was read holds for the whole input.
use Rattle.std.proofs.Common.{◌≡◌, inl, inr, ℕ, ◌≤◌, ◌<◌, List, length, take_all, arith}
use Rattle.std.proofs.lemmas.List.{length-take}
use Rattle.std.specs.Prelude.{min}
use Rattle.lab_history.specs.History.{History}
use Rattle.lab_history.specs.Limits.{max_file_bytes}
use Rattle.lab_history.specs.declared.fault.FileFault.{FileFault}
use Rattle.lab_history_file.specs.HistoryFile.{HoldsHistory, IsFileFault, too_long, of_format}
use Rattle.lab_streams.specs.HistoryFile.{IsToldOf}
use Rattle.lab_streams.specs.Input.{read_of, max_input_bytes}
use Rattle.lab_streams.specs.declared.ending.Ending.{Ending}
use Rattle.lab_streams.specs.declared.reporting.Format.{Format}

-- an input of which no more is read than a file may have is read whole
read_whole : (input : List ℕ) → length (read_of input) ≤ max_file_bytes → read_of input ≡ input
read_whole input few =
    let cut : length (read_of input) ≡ min max_input_bytes (length input) = length-take max_input_bytes input in
    take_all max_input_bytes input (omega arith)

-- an input of which more is read has more
read_more : (input : List ℕ) → max_file_bytes < length (read_of input) → max_file_bytes < length input
read_more input many =
    let cut : length (read_of input) ≡ min max_input_bytes (length input) = length-take max_input_bytes input in
    omega arith

-- the history that what is read holds is the one of the whole input
holds_whole : (input : List ℕ) (h : History) → HoldsHistory (read_of input) h → HoldsHistory input h
holds_whole input h held = rw (read_whole input held.short) at held

-- the fault of what is read is the one of the whole input
faults_whole : (input : List ℕ) (fault : FileFault) → IsFileFault (read_of input) fault → IsFileFault input fault
faults_whole input fault (too_long many is) = too_long (read_more input many) is
faults_whole input fault (of_format few is) =
    of_format (rw (read_whole input few) at few) (rw (read_whole input few) at is)

-- what is to be said of what is read is to be said of the whole input
pub told_whole : (format : Format) (Tells : History → List ℕ → Ending → Type 0) (input text : List ℕ) (ending : Ending) → IsToldOf format Tells (read_of input) text ending
    → IsToldOf format Tells input text ending
told_whole format Tells input text ending (inl t) = inl (record { history = t.history; held = holds_whole input t.history t.held; told = t.told })
told_whole format Tells input text ending (inr n) = inr (record { fault = n.fault; faulty = faults_whole input n.fault n.faulty; text_is = n.text_is; refused = n.refused })
