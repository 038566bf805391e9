-- A lemma: each reason why a play can't be reported is one of the faults that a play may be refused for.
use Rattle.std.proofs.Common.{inr}
use Rattle.lab_script.specs.Limits.{ScriptPrints}
use Rattle.lab_script.specs.declared.script.Script.{Script}
use Rattle.lab_engine.specs.RecordedLog.{RecordedLog}
use Rattle.lab_engine.specs.declared.event.Level.{Level}
use Rattle.lab_session.specs.declared.fault.PlayFault.{PlayFault}
use Rattle.lab_session.specs.declared.fault.PlayFault.TheVariants as play_fault
use Rattle.lab_session.proofs.PlaysPrint.{play_is_told}
use Rattle.lab_commands.specs.Playing.{IsScriptedPlay, IsScriptedRefusal, IsFreePlay, IsFreeRefusal, IsUntold}

-- by one thread nothing but want of memory does: every command of a play prints
pub scripted_untold : (level : Level) (script : Script) (recording : RecordedLog) (fault : PlayFault) → ScriptPrints script → IsScriptedPlay level script recording → IsUntold recording fault
    → IsScriptedRefusal level script fault
scripted_untold level script recording play_fault.NoMemory prints played untold = tt
scripted_untold level script recording (play_fault.OverLimit which) prints played untold = absurd (play_is_told level script recording.log prints played.play untold.1)
scripted_untold level script recording (play_fault.Close fault) prints played untold = absurd untold
scripted_untold level script recording play_fault.NoThread prints played untold = absurd untold
scripted_untold level script recording play_fault.Full prints played untold = absurd untold

-- by threads it is one of the faults
pub free_untold : (level : Level) (script : Script) (recording : RecordedLog) (fault : PlayFault) → ScriptPrints script → IsFreePlay level script recording → IsUntold recording fault
    → IsFreeRefusal level script fault
free_untold level script recording fault prints played untold = inr (recording, played, untold)
