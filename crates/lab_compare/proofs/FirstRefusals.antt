-- The first refusal of the plays at some levels.
use Rattle.std.proofs.Common.{◌≡◌, ◌≢◌, inl, inr, List, [], ◌∷◌}
use Rattle.lab_script.specs.declared.script.Script.{Script}
use Rattle.lab_engine.specs.declared.event.Level.{Level}
use Rattle.lab_session.{specs.{Play.{given_lines}, declared.fault.PlayFault.{PlayFault, TheVariants.{NoMemory}}}, proofs.OnePlay.{no_fault, one_fault}}
use Rattle.lab_commands.specs.Playing.{IsScriptedRefusal}
use Rattle.lab_compare.specs.{Answer.{IsSide, AreSides, HasPlay, IsFirstRefusal}, declared.side.Side.{Side}}

-- a side has its play
pub side_play : (level : Level) (script : Script) (side : Side) → IsSide level script side → HasPlay level script
side_play level script side is = record { recording = is.recording; played = is.played }

-- a play that has a recording isn't refused
not_refused : (level : Level) (script : Script) (fault : PlayFault) → fault ≢ NoMemory → IsScriptedRefusal level script fault → HasPlay level script → ⊥
not_refused level script fault told faulty has =
    no_fault level script.setup (given_lines script.lines) has.recording.log has.recording.history has.played.play has.played.history has.played.whole fault told faulty

-- where there are sides none of the plays is refused
pub none_refused : (script : Script) (fault : PlayFault) → fault ≢ NoMemory → (levels : List Level) (sides : List Side) → AreSides script levels sides → IsFirstRefusal script levels fault → ⊥
none_refused script fault told [] sides are refused = refused
none_refused script fault told (level ∷ levels) [] are refused = are
none_refused script fault told (level ∷ levels) (side ∷ sides) are (inl faulty) = not_refused level script fault told faulty (side_play level script side are.0)
none_refused script fault told (level ∷ levels) (side ∷ sides) are (inr later) = none_refused script fault told levels sides are.1 later.1

-- one refusal is the first
module _ (script : Script) (fault again : PlayFault) (told : fault ≢ NoMemory) (told_again : again ≢ NoMemory) where
  pub fault_unique : (levels : List Level) → IsFirstRefusal script levels fault → IsFirstRefusal script levels again → fault ≡ again
  fault_unique [] a b = absurd a
  fault_unique (level ∷ levels) (inl a) (inl b) = one_fault level script.setup (given_lines script.lines) fault again told told_again a b
  fault_unique (level ∷ levels) (inl a) (inr b) = absurd (not_refused level script fault told a b.0)
  fault_unique (level ∷ levels) (inr a) (inl b) = absurd (not_refused level script again told_again b a.0)
  fault_unique (level ∷ levels) (inr a) (inr b) = fault_unique levels a.1 b.1
