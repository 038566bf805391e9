-- Sound parts that fit are a sound run.
use Rattle.std.{proofs.{Common.{◌≡◌, List, [], ◌∷◌, refl, sym, ◌∙◌}, lemmas.List.Elements.{All-head, All-tail}}, specs.List.{All}}
use Rattle.lab_history.specs.History.{History}
use Rattle.lab_deps.specs.Soundness.{IsSound}
use Rattle.lab_parts.{specs.Whole.{whole, Fits}, proofs.JoinedSound.{joined_sound}}

-- a run begins with the table with which its first part begins
pub whole_initial : (first : History) (parts : List History) → (whole first parts).initial ≡ first.initial
whole_initial first [] = refl
whole_initial first (part ∷ parts) = refl

pub whole_sound : (first : History) (parts : List History) → IsSound first → All IsSound parts → Fits first parts → IsSound (whole first parts)
whole_sound first [] sound all fits = sound
whole_sound first (part ∷ parts) sound all fits =
    joined_sound first (whole part parts) sound (whole_sound part parts (All-head IsSound part parts all) (All-tail IsSound part parts all) fits.1) (fits.0 ∙ sym (whole_initial part parts))
