-- The output of `serial`: the transcript of the script in the input, or the line of a fault of it.
use Rattle.std.specs.Prelude.{◌≡◌, ℕ, ◌⊎◌, List}
use Rattle.lab_script.specs.declared.script.Script.{Script}
use Rattle.lab_script.specs.Script.{Spells}
use Rattle.lab_script.specs.Transcript.{transcript}
use Rattle.lab_streams.specs.declared.ending.Ending.{Ending}
use Rattle.lab_streams.specs.declared.ending.Ending.TheVariants.{Done}
use Rattle.lab_streams.specs.declared.reporting.Format.TheVariants.{Lines}
use Rattle.lab_commands.specs.Refusals.{IsRefused}

-- the input spells a script, and the text is its transcript
pub record IsTranscribed (input text : List ℕ) (ending : Ending) : Type 0 where
  pub script : Script
  pub spelled : Spells input script
  pub text_is : text ≡ transcript script
  pub done : ending ≡ Done

-- the text is what is to be said of the input, and the ending is the one due
abbrev pub IsSerialAnswer : List ℕ → List ℕ → Ending → Type 0
IsSerialAnswer input text ending = IsTranscribed input text ending ⊎ IsRefused Lines input text ending
