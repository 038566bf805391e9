-- The output of `compare`: the comparison of one play for each level asked for, or the line of the first fault.
use Rattle.std.specs.Prelude.{◌≡◌, ◌≢◌, ◌⊎◌, ℕ, ⊤, List, [], ◌∷◌}
use Rattle.lab_script.specs.Script.{Spells}
use Rattle.lab_script.specs.declared.script.Script.{Script}
use Rattle.lab_engine.specs.RecordedLog.{RecordedLog}
use Rattle.lab_engine.specs.declared.event.Level.{Level}
use Rattle.lab_session.specs.PlayFaultText.{play_fault_text}
use Rattle.lab_session.specs.declared.fault.PlayFault.{PlayFault}
use Rattle.lab_session.specs.declared.fault.PlayFault.TheVariants.{NoMemory}
use Rattle.lab_judge.specs.Judgement.{IsExactJudgement}
use Rattle.lab_judge.specs.declared.report.Report.{Report}
use Rattle.lab_streams.specs.declared.ending.Ending.{Ending}
use Rattle.lab_streams.specs.declared.ending.Ending.TheVariants.{Done, Refused}
use Rattle.lab_streams.specs.declared.reporting.Format.TheVariants.{Lines}
use Rattle.lab_commands.specs.Playing.{IsScriptedPlay, IsScriptedRefusal}
use Rattle.lab_commands.specs.Refusals.{IsRefused}
use Rattle.lab_compare.specs.Comparison.{side_of, comparison_text}
use Rattle.lab_compare.specs.declared.side.Side.{Side}

-- what is said of the play of a script at a level, and of the judgement of its recording
pub record IsSide (level : Level) (script : Script) (side : Side) : Type 0 where
  pub recording : RecordedLog
  pub played : IsScriptedPlay level script recording
  pub report : Report
  pub judgement : IsExactJudgement recording.history report
  pub side_is : side ≡ side_of level script.lines recording report

-- the sides of a script at levels, one after another
abbrev pub AreSides : Script → List Level → List Side → Type 0
AreSides script [] [] = ⊤
AreSides script [] (side ∷ sides) = ⊥
AreSides script (level ∷ levels) [] = ⊥
AreSides script (level ∷ levels) (side ∷ sides) = IsSide level script side × AreSides script levels sides

-- the input spells a script, and the text compares what it comes to
pub record IsCompared (levels : List Level) (input text : List ℕ) (ending : Ending) : Type 0 where
  pub script : Script
  pub spelled : Spells input script
  pub sides : List Side
  pub are_sides : AreSides script levels sides
  pub text_is : text ≡ comparison_text script sides
  pub done : ending ≡ Done

-- the play of a script at a level has a recording
pub record HasPlay (level : Level) (script : Script) : Type 0 where
  pub recording : RecordedLog
  pub played : IsScriptedPlay level script recording

-- the play at one of these levels is refused for this fault, and those at the levels before it have recordings
abbrev pub IsFirstRefusal : Script → List Level → PlayFault → Type 0
IsFirstRefusal script [] fault = ⊥
IsFirstRefusal script (level ∷ levels) fault = IsScriptedRefusal level script fault ⊎ (HasPlay level script × IsFirstRefusal script levels fault)

-- the input spells a script of which a play was refused, and the text tells the first such fault
pub record IsUncompared (levels : List Level) (input text : List ℕ) (ending : Ending) : Type 0 where
  pub script : Script
  pub spelled : Spells input script
  pub fault : PlayFault
  pub told_why : fault ≢ NoMemory
  pub first : IsFirstRefusal script levels fault
  pub text_is : text ≡ play_fault_text fault
  pub refused : ending ≡ Refused

-- the text is what is to be said of the input on the engines of these levels, and the ending is the one due
abbrev pub IsCompareAnswer : List Level → List ℕ → List ℕ → Ending → Type 0
IsCompareAnswer levels input text ending = IsCompared levels input text ending ⊎ (IsRefused Lines input text ending ⊎ IsUncompared levels input text ending)
