-- The output for an input that should be a history file: its result, or the file's first fault.
use Rattle.std.specs.Prelude.{◌≡◌, ◌⊎◌, ℕ, None, List}
use Rattle.lab_history.specs.History.{History}
use Rattle.lab_history.specs.declared.fault.FileFault.{FileFault}
use Rattle.lab_history_file.specs.HistoryFile.{HoldsHistory, IsFileFault}
use Rattle.lab_streams.specs.declared.ending.Ending.{Ending}
use Rattle.lab_streams.specs.declared.ending.Ending.TheVariants.{Refused}
use Rattle.lab_streams.specs.declared.reporting.Format.{Format}
use Rattle.lab_streams.specs.Reports.{refused_text}

-- the input is no history file, and the text tells its first fault
pub record IsNoFile (format : Format) (input text : List ℕ) (ending : Ending) : Type 0 where
  pub fault : FileFault
  pub faulty : IsFileFault input fault
  pub text_is : text ≡ refused_text format None fault
  pub refused : ending ≡ Refused

-- What is said of a history file, by what is told of a history.
module _ (format : Format) (Tells : History → List ℕ → Ending → Type 0) where
  -- the input is a file of a history, and the text and the ending tell of that
  pub record IsTold (input text : List ℕ) (ending : Ending) : Type 0 where
    pub history : History
    pub held : HoldsHistory input history
    pub told : Tells history text ending

  -- the text is what is to be said of the input, and the ending is the one due
  abbrev pub IsToldOf : List ℕ → List ℕ → Ending → Type 0
  IsToldOf input text ending = IsTold input text ending ⊎ IsNoFile format input text ending
