-- What is read from consecutive tokens.
use Rattle.std.specs.Prelude.{◌≡◌, ℕ, List, Some, Ok}
use Rattle.json.specs.Token.{Token}
use Rattle.serde_json.specs.Data.{Data}
use Rattle.lab_table.specs.Row.{Row}
use Rattle.lab_history_file.specs.Entries.{state_in}
use Rattle.lab_history.specs.History.{History}
use Rattle.lab_history_file.specs.FileOf.{IsKey}
use Rattle.lab_history_file.specs.FileRead.{IsTextOf}
use Rattle.lab_history_file.specs.Format.{parts_in}
use Rattle.lab_history_file.specs.Spelled.{Passes, Spelled}
use Rattle.lab_history_file.specs.Whole.{whole_in}
use Rattle.lab_history_file.specs.declared.file_version.FileVersion.{FileVersion}
use Rattle.lab_history.specs.declared.operation.State.{State}

-- the tokens `old` are a whole number from 1 to this one, and then `new`
abbrev pub WholeTo : ℕ → List Token → List Token → ℕ → Type 0
WholeTo most old new n = Spelled 0 (λ d x. whole_in 1 most d ≡ Some x) old new n

-- they are the key of a row, and then `new`, in which a list goes on
abbrev pub KeyTaken : FileVersion → List Token → List Token → Row → Type 0
KeyTaken version old new row = (key : List Data) × IsKey version row key × Passes old new key

-- a value is read as what was written to a row
abbrev pub IsWritten : Data → State → Type 0
IsWritten d state = state_in d ≡ Some state

-- the text is a value from which these parts of a history are read
abbrev pub PartsIn : List ℕ → History → Type 0
PartsIn bytes h = (d : Data) × IsTextOf bytes d × (parts_in d ≡ Ok h)
