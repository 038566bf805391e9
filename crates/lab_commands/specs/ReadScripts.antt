-- Lemmas: a fact about the part of a script that was read holds for the whole script.
use Rattle.std.proofs.Common.{inl, inr, ℕ, List, arith}
use Rattle.lab_statement.specs.declared.fault.ScriptFault.TheVariants as fault
use Rattle.lab_script.specs.declared.script.Script.{Script}
use Rattle.lab_script.specs.Script.{Spells}
use Rattle.lab_script.proofs.LongTexts.{first_spell, fault_spelled}
use Rattle.lab_engine.specs.RecordedLog.{RecordedLog}
use Rattle.lab_session.specs.declared.fault.PlayFault.{PlayFault}
use Rattle.lab_streams.specs.declared.ending.Ending.{Ending}
use Rattle.lab_streams.specs.Input.{read_of, max_input_bytes}
use Rattle.lab_streams.specs.declared.reporting.Format.{Format}
use Rattle.lab_streams.specs.declared.reporting.Format.TheVariants.{Lines}
use Rattle.lab_streams.specs.declared.reporting.Wanted.{Wanted}
use Rattle.lab_commands.specs.Refusals.{IsRefused}
use Rattle.lab_commands.specs.Serial.{IsSerialAnswer}
use Rattle.lab_commands.specs.Playing.{IsRunAnswer}
use Rattle.lab_commands.specs.declared.shown.Shown.{Shown}

pub refused_whole : (format : Format) (input text : List ℕ) (ending : Ending) → IsRefused format (read_of input) text ending → IsRefused format input text ending
refused_whole format input text ending r =
    record { line = r.line; kind = r.kind; faulty = fault_spelled input max_input_bytes (fault.At r.line r.kind) (omega arith) r.faulty; text_is = r.text_is; refused = r.refused }

pub spelled_whole : (input : List ℕ) (script : Script) → Spells (read_of input) script → Spells input script
spelled_whole input script spelled = first_spell input max_input_bytes script (omega arith) spelled

pub serial_whole : (input text : List ℕ) (ending : Ending) → IsSerialAnswer (read_of input) text ending → IsSerialAnswer input text ending
serial_whole input text ending (inl t) = inl (record { script = t.script; spelled = spelled_whole input t.script t.spelled; text_is = t.text_is; done = t.done })
serial_whole input text ending (inr r) = inr (refused_whole Lines input text ending r)

pub run_whole : (Plays : Script → RecordedLog → Type 0) (Refuses : Script → PlayFault → Type 0) (shown : Shown) (wanted : Wanted) (input text : List ℕ) (ending : Ending)
    → IsRunAnswer Plays Refuses shown wanted (read_of input) text ending → IsRunAnswer Plays Refuses shown wanted input text ending
run_whole Plays Refuses shown wanted input text ending (inl p) =
    inl (record { script = p.script; spelled = spelled_whole input p.script p.spelled; recording = p.recording; played = p.played; tells = p.tells })
run_whole Plays Refuses shown wanted input text ending (inr (inl r)) = inr (inl (refused_whole wanted.format input text ending r))
run_whole Plays Refuses shown wanted input text ending (inr (inr u)) = inr (inr (record {
  script = u.script;
  spelled = spelled_whole input u.script u.spelled;
  fault = u.fault;
  told_why = u.told_why;
  faulty = u.faulty;
  text_is = u.text_is;
  refused = u.refused;
}))
