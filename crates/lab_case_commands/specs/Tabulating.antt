-- The output of `matrix`: the text of a matrix whose cells are judgements of the plays of the ten cases, or the line
-- of a play that was refused.
use Rattle.std.specs.Prelude.{◌≡◌, ◌≢◌, ◌⊎◌, ℕ, List}
use Rattle.lab_engine.specs.declared.event.Level.{Level}
use Rattle.lab_session.specs.Play.{given_lines, IsScriptedFault}
use Rattle.lab_session.specs.PlayFaultText.{play_fault_text}
use Rattle.lab_session.specs.declared.fault.PlayFault.{PlayFault}
use Rattle.lab_session.specs.declared.fault.PlayFault.TheVariants.{NoMemory}
use Rattle.lab_matrix.specs.Listings.{usual_setup, listing}
use Rattle.lab_matrix.specs.Columns.{AreColumns, IsFirstAmong, columns_text}
use Rattle.lab_matrix.specs.Matrix.{AreCells, IsFirstCell}
use Rattle.lab_matrix.specs.MatrixText.{matrix_text}
use Rattle.lab_matrix.specs.declared.cells.Matrix.{Matrix}
use Rattle.lab_matrix.specs.declared.columns.CaseReports.{CaseReports}
use Rattle.lab_matrix.specs.declared.filling.MatrixFault.TheVariants.{Play}
use Rattle.lab_matrix.specs.declared.name.CaseName.{CaseName}
use Rattle.lab_streams.specs.declared.ending.Ending.{Ending}
use Rattle.lab_streams.specs.declared.ending.Ending.TheVariants.{Done, Refused}

-- the text is that of the matrix: each case on each engine, played and judged
pub record IsTabulated (text : List ℕ) (ending : Ending) : Type 0 where
  pub matrix : Matrix
  pub cells : AreCells matrix
  pub text_is : text ≡ matrix_text matrix
  pub done : ending ≡ Done

-- a case's play at a level was refused, the first of all, and the text is the line of its fault
pub record IsUntabulated (text : List ℕ) (ending : Ending) : Type 0 where
  pub case : CaseName
  pub level : Level
  pub fault : PlayFault
  pub told_why : fault ≢ NoMemory
  pub faulty : IsScriptedFault level usual_setup (given_lines (listing case)) fault
  pub first : IsFirstCell case level
  pub text_is : text ≡ play_fault_text fault
  pub refused : ending ≡ Refused

-- the text is what is to be said, and the ending is the one due
abbrev pub IsMatrixAnswer : List ℕ → Ending → Type 0
IsMatrixAnswer text ending = IsTabulated text ending ⊎ IsUntabulated text ending

-- ---- at levels

-- the text is that of the cases at these levels, one after another, played and judged
pub record IsTabulatedAt (levels : List Level) (text : List ℕ) (ending : Ending) : Type 0 where
  pub columns : List CaseReports
  pub are_columns : AreColumns levels columns
  pub text_is : text ≡ columns_text columns
  pub done : ending ≡ Done

-- a case's play at one of them was refused, the first of all, and the text is the line of its fault
pub record IsUntabulatedAt (levels : List Level) (text : List ℕ) (ending : Ending) : Type 0 where
  pub case : CaseName
  pub level : Level
  pub fault : PlayFault
  pub first : IsFirstAmong levels (Play case level fault)
  pub text_is : text ≡ play_fault_text fault
  pub refused : ending ≡ Refused

-- the text is what is to be said, and the ending is the one due
abbrev pub IsColumnsAnswer : List Level → List ℕ → Ending → Type 0
IsColumnsAnswer levels text ending = IsTabulatedAt levels text ending ⊎ IsUntabulatedAt levels text ending
