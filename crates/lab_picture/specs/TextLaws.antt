-- A text is whole in the lines into which it is broken.
use Rattle.std.specs.Prelude.{◌≡◌, ◌⊎◌, ℕ, ◌+◌, List, [], ◌∷◌, ◌++◌, take, ⊤}
use Rattle.lab_picture.specs.Text.{depth_behind, last_outside}

-- a text stands in another
abbrev pub StandsIn : List ℕ → List ℕ → Type 0
StandsIn text whole = (before after : List ℕ) × (whole ≡ before ++ (text ++ after))

-- the text of which these are the lines
abbrev pub joined : List (List ℕ) → List ℕ
joined [] = []
joined (line ∷ lines) = line ++ joined lines

-- how deep in parentheses it is behind a text, where it is so deep before it
abbrev pub depth_of : ℕ → List ℕ → ℕ
depth_of depth [] = depth
depth_of depth (b ∷ bs) = depth_of (depth_behind depth b) bs

-- no parentheses are parted that a line has room for: each line before the last closes those that it opens, or no blank outside parentheses comes so early that a line could end there
abbrev pub AreUnparted : ℕ → List (List ℕ) → Type 0
AreUnparted width [] = ⊤
AreUnparted width (line ∷ []) = ⊤
AreUnparted width (line ∷ next ∷ lines) =
    ((depth_of 0 line ≡ 0) ⊎ (last_outside (take (width + 1) (joined (line ∷ next ∷ lines))) ≡ 0)) × AreUnparted width (next ∷ lines)

-- these lines have a text whole
abbrev pub Have : List (List ℕ) → List ℕ → Type 0
Have lines text = StandsIn text (joined lines) × AreUnparted 28 lines
