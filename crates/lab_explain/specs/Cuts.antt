-- What is shown of a part that has too many lines: the first sentences that fit, each whole, and the number of lines
-- left out.
use Rattle.std.specs.Prelude.{◌≡◌, ℕ, ◌+◌, ◌-◌, ◌<◌, ◌≤◌, ◌⊎◌, List, [], ◌∷◌, ◌++◌}
use Rattle.lab_explain.specs.Lines.{lines, first_lines, left_out, joined}

-- what may stand of the sentences that are left, where so many lines may stand, there is room for so many, and so many of those are taken: the next one has no room, and nothing of it stands, but first lines where it has more than all may have
abbrev pub MayBegin : ℕ → ℕ → ℕ → List (List ℕ) → List ℕ → Type 0
MayBegin most room taken [] begun = begun ≡ []
MayBegin most room taken (s ∷ ss) begun =
    (room < taken + lines s) × (((lines s ≤ most) × (begun ≡ [])) ⊎ ((most < lines s) × (begun ≡ first_lines (room - taken) s)))

-- a text is the first ones of some sentences, each whole, where so many lines may stand, and there is room for so many; and what may stand of the next
pub record IsStanding (most room : ℕ) (sentences : List (List ℕ)) (text : List ℕ) : Type 0 where
  pub whole : List (List ℕ)
  pub left : List (List ℕ)
  pub begun : List ℕ
  pub first_ones : whole ++ left ≡ sentences
  pub text_is : text ≡ joined whole ++ begun
  pub enough : lines (joined whole) ≤ room
  pub next : MayBegin most room (lines (joined whole)) left begun

-- a text is the first ones of some sentences, each whole, where one line fewer than so many may stand; and behind them a line says how many lines are left out
abbrev pub IsCutOff : ℕ → List (List ℕ) → List ℕ → Type 0
IsCutOff most sentences text = (first : List ℕ) × IsStanding (most - 1) (most - 1) sentences first × (text ≡ first ++ left_out (lines (joined sentences) - lines first))

-- a text is all of some sentences, where so many lines may stand and they have no more; else it is cut off between them
abbrev pub IsCut : ℕ → List (List ℕ) → List ℕ → Type 0
IsCut most sentences text =
    ((lines (joined sentences) ≤ most) × (text ≡ joined sentences))
    ⊎ ((most < lines (joined sentences)) × IsCutOff most sentences text)
