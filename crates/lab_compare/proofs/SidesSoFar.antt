-- The sides of the first of some levels, and what of the levels left is said of all.
use Rattle.std.proofs.{Common.{◌≡◌, inl, inr, List, [], ◌∷◌, ◌++◌, sym, ap, ◌∙◌, subst}, lemmas.List.{append_assoc, append-nil}}
use Rattle.lab_script.specs.declared.script.Script.{Script}
use Rattle.lab_engine.specs.declared.event.Level.{Level}
use Rattle.lab_session.specs.declared.fault.PlayFault.{PlayFault}
use Rattle.lab_commands.specs.Playing.{IsScriptedRefusal}
use Rattle.lab_compare.{specs.{Answer.{IsSide, AreSides, IsFirstRefusal}, declared.side.Side.{Side}}, proofs.FirstRefusals.{side_play}}

-- the sides so far and those of the levels left are the sides of all, and a first refusal of those left is the first of all
pub record SoFar (script : Script) (levels left : List Level) (sides : List Side) : Type 0 where
  pub whole : (more : List Side) → AreSides script left more → AreSides script levels (sides ++ more)
  pub first : (fault : PlayFault) → IsFirstRefusal script left fault → IsFirstRefusal script levels fault

pub none_so_far : (script : Script) (levels : List Level) → SoFar script levels levels []
none_so_far script levels = record { whole = λ more are. are; first = λ fault is. is }

-- one more
pub next_so_far : (script : Script) (levels left rest : List Level) (level : Level) (sides more : List Side) (side : Side) → left ≡ level ∷ rest → more ≡ sides ++ side ∷ []
    → IsSide level script side → SoFar script levels left sides → SoFar script levels rest more
next_so_far script levels left rest level sides more side first grown is so_far = record {
  whole = λ later are.
      let all : AreSides script levels (sides ++ side ∷ later) = so_far.whole (side ∷ later) (subst (λ l. AreSides script l (side ∷ later)) (sym first) (is, are)) in
      subst (AreSides script levels) (sym (ap (λ m. m ++ later) grown ∙ append_assoc sides (side ∷ []) later)) all;
  first = λ fault refused. so_far.first fault (subst (λ l. IsFirstRefusal script l fault) (sym first) (inr (side_play level script side is, refused)));
}

-- none left
pub all_so_far : (script : Script) (levels left : List Level) (sides : List Side) → left ≡ [] → SoFar script levels left sides → AreSides script levels sides
all_so_far script levels left sides none so_far =
    subst (AreSides script levels) (append-nil sides) (so_far.whole [] (subst (λ l. AreSides script l []) (sym none) tt))

-- a refusal at the next level is the first of all
pub refused_next : (script : Script) (levels left rest : List Level) (level : Level) (sides : List Side) (fault : PlayFault) → left ≡ level ∷ rest → SoFar script levels left sides
    → IsScriptedRefusal level script fault → IsFirstRefusal script levels fault
refused_next script levels left rest level sides fault first so_far faulty = so_far.first fault (subst (λ l. IsFirstRefusal script l fault) (sym first) (inl faulty))
