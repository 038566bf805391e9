-- The output of `run`: the log, committed rows and report of a play of the script in the input, or why there is none.
use Rattle.std.specs.Prelude.{◌≡◌, ◌≢◌, ℕ, ◌<◌, ◌≤◌, ◌⊎◌, Ok, Option, Some, None, List, [], ◌++◌, length, Bool, true, false}
use Rattle.serde_json.specs.Written.{compact_text}
use Rattle.lab_script.specs.declared.script.Script.{Script}
use Rattle.lab_printing.specs.Printed.{newline}
use Rattle.lab_script.specs.Script.{Spells}
use Rattle.lab_printing.specs.Limits.{IsDeep, IsLong}
use Rattle.lab_history.specs.History.{History}
use Rattle.lab_history.specs.FirstPartsFault.{checked}
use Rattle.lab_history_file.specs.Tree.{tree_of}
use Rattle.lab_history.specs.declared.fault.FileFault.TheVariants.{OverLimit}
use Rattle.lab_history.specs.declared.fault.Limit.TheVariants.{Bytes, Statement}
use Rattle.lab_engine.specs.Log.{past_of}
use Rattle.lab_engine.specs.Recording.{IsRecording}
use Rattle.lab_engine.specs.RecordedLog.{RecordedLog, IsSoundRecord}
use Rattle.lab_engine.specs.declared.event.Level.{Level}
use Rattle.lab_history.specs.Limits.{max_file_bytes}
use Rattle.lab_session.specs.Play.{given_lines, IsLegalPlay, IsScriptedFault}
use Rattle.lab_session.specs.Free.{AllSessionsPlayed, IsFreeFault}
use Rattle.lab_session.specs.LogText.{log_text, SomeEvent}
use Rattle.lab_session.specs.declared.fault.PlayFault.{PlayFault}
use Rattle.lab_session.specs.declared.fault.PlayFault.TheVariants.{NoMemory}
use Rattle.lab_session.specs.declared.fault.PlayFault.TheVariants as play_fault
use Rattle.lab_judge.specs.Judgement.{IsExactJudgement}
use Rattle.lab_judge.specs.FileFaultText.{file_fault_text}
use Rattle.lab_judge.specs.declared.report.Report.{Report}
use Rattle.lab_reports.specs.declared.requirement.Requirement.{Requirement}
use Rattle.lab_streams.specs.Reports.{said_of, ending_due}
use Rattle.lab_streams.specs.declared.ending.Ending.{Ending}
use Rattle.lab_streams.specs.declared.ending.Ending.TheVariants.{Done, Refused}
use Rattle.lab_streams.specs.declared.reporting.Format.{Format}
use Rattle.lab_streams.specs.declared.reporting.Format.TheVariants.{Lines, Json}
use Rattle.lab_streams.specs.declared.reporting.Wanted.{Wanted}
use Rattle.lab_commands.specs.CommittedRows.{remarked_recording}
use Rattle.lab_commands.specs.Refusals.{play_refused_text, IsRefused}
use Rattle.lab_commands.specs.declared.shown.Shown.{Shown}
use Rattle.lab_commands.specs.declared.shown.Shown.TheVariants as shown

-- a recording of a script that is played by one thread, at a level: its log is legal and follows the script to its end,
-- and its history has no fault
pub record IsScriptedPlay (level : Level) (script : Script) (recording : RecordedLog) : Type 0 where
  pub at_level : recording.level ≡ level
  pub on_setup : recording.setup ≡ script.setup
  pub play : IsLegalPlay level script.setup (given_lines script.lines) recording.log
  pub history : IsRecording script.setup (past_of recording.log) recording.history
  pub whole : checked recording.history ≡ Ok tt

-- why such a play has no recording
abbrev pub IsScriptedRefusal : Level → Script → PlayFault → Type 0
IsScriptedRefusal level script fault = IsScriptedFault level script.setup (given_lines script.lines) fault

-- a recording of a script that is played by one thread for each session, at a level: a legal log in which each session's
-- calls are its commands of the script in order, and then at most one abort
pub record IsFreePlay (level : Level) (script : Script) (recording : RecordedLog) : Type 0 where
  pub at_level : recording.level ≡ level
  pub on_setup : recording.setup ≡ script.setup
  pub sound : IsSoundRecord recording
  pub played : AllSessionsPlayed (given_lines script.lines) recording.log

-- why nothing is told of a recording: its log has a statement that doesn't print; memory may be wanting at any time
abbrev pub IsUntold : RecordedLog → PlayFault → Type 0
IsUntold recording NoMemory = Unit {0}
IsUntold recording (play_fault.OverLimit which) = (which ≡ Statement) × (SomeEvent IsDeep recording.log ⊎ SomeEvent IsLong recording.log)
IsUntold recording (play_fault.Close fault) = ⊥
IsUntold recording play_fault.NoThread = ⊥
IsUntold recording play_fault.Full = ⊥

-- why such a play has no recording, or nothing is told of the one that it has
abbrev pub IsFreeRefusal : Level → Script → PlayFault → Type 0
IsFreeRefusal level script fault = IsFreeFault level script.setup (given_lines script.lines) fault ⊎ ((recording : RecordedLog) × IsFreePlay level script recording × IsUntold recording fault)

-- the text of a history's file
abbrev pub file_text : History → List ℕ
file_text history = compact_text (tree_of history)

-- what is written of the log of a recording in front of a report, with the committed rows behind ends of transactions or without
abbrev pub log_said : Bool → Format → RecordedLog → List ℕ
log_said false Lines recording = log_text recording.log
log_said true Lines recording = remarked_recording recording
log_said rows Json recording = []

-- the text is the log and the report of a judgement of what it recorded, or in JSON that report alone
pub record IsLogAnswer (rows : Bool) (wanted : Wanted) (recording : RecordedLog) (text : List ℕ) (ending : Ending) : Type 0 where
  pub report : Report
  pub judgement : IsExactJudgement recording.history report
  pub text_is : text ≡ log_said rows wanted.format recording ++ said_of wanted.format None report
  pub ends : ending ≡ ending_due wanted.requirement report

-- how it ends where something else is written of a history than its report, by what is required of that
abbrev pub Ends : Option Requirement → History → Ending → Type 0
Ends None history ending = ending ≡ Done
Ends (Some requirement) history ending = (report : Report) × IsExactJudgement history report × (ending ≡ ending_due (Some requirement) report)

-- the text is the file of what was recorded and a newline, where it isn't too long, or the line that says that it would be
pub data IsHistoryAnswer (wanted : Wanted) (recording : RecordedLog) (text : List ℕ) (ending : Ending) : Type 0 where
  written : length (file_text recording.history) ≤ max_file_bytes → text ≡ file_text recording.history ++ newline → Ends wanted.requirement recording.history ending
      → IsHistoryAnswer wanted recording text ending
  too_long : max_file_bytes < length (file_text recording.history) → text ≡ file_fault_text (OverLimit Bytes) → ending ≡ Refused → IsHistoryAnswer wanted recording text ending

-- what is told of a recording: its log, the same with the committed rows, or its history
abbrev pub IsRecordingAnswer : Shown → Wanted → RecordedLog → List ℕ → Ending → Type 0
IsRecordingAnswer shown.Log wanted recording text ending = IsLogAnswer false wanted recording text ending
IsRecordingAnswer shown.Rows wanted recording text ending = IsLogAnswer true wanted recording text ending
IsRecordingAnswer shown.History wanted recording text ending = IsHistoryAnswer wanted recording text ending

-- What is said of a script whose plays give such recordings, or are refused for such a fault.
module _ (Plays : Script → RecordedLog → Type 0) (Refuses : Script → PlayFault → Type 0) where
  -- the input spells a script, and the text tells of a recording of it
  pub record IsPlayed (what : Shown) (wanted : Wanted) (input text : List ℕ) (ending : Ending) : Type 0 where
    pub script : Script
    pub spelled : Spells input script
    pub recording : RecordedLog
    pub played : Plays script recording
    pub tells : IsRecordingAnswer what wanted recording text ending

  -- the input spells a script whose play was refused, and the text tells its fault
  pub record IsUnplayed (format : Format) (input text : List ℕ) (ending : Ending) : Type 0 where
    pub script : Script
    pub spelled : Spells input script
    pub fault : PlayFault
    pub told_why : fault ≢ NoMemory
    pub faulty : Refuses script fault
    pub text_is : text ≡ play_refused_text format fault
    pub refused : ending ≡ Refused

  -- the text is what is to be said of the input, and the ending is the one due
  abbrev pub IsRunAnswer : Shown → Wanted → List ℕ → List ℕ → Ending → Type 0
  IsRunAnswer what wanted input text ending =
      IsPlayed what wanted input text ending ⊎ (IsRefused wanted.format input text ending ⊎ IsUnplayed wanted.format input text ending)
