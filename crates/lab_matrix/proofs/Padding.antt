-- Spaces, one by one.
use Rattle.std.proofs.{Common.{◌≡◌, ℕ, suc, ◌+◌, ◌-◌, ◌<◌, List, [], ◌∷◌, ◌++◌, sym, ap, ◌∙◌, arith}, lemmas.List.{append_assoc}}
use Rattle.lab_matrix.specs.MatrixText.{spaces}

-- the spaces up to a width are the next one and those behind it
spaces_next : (column width : ℕ) → column < width → spaces (width - column) ≡ 32 ∷ spaces (width - (column + 1))
spaces_next column width lt = let n : width - column ≡ suc (width - (column + 1)) = omega (arith, lt) in ap spaces n

-- so a text with one space more wants one less
pub space_more : (text whole : List ℕ) (column width : ℕ) → column < width → text ++ spaces (width - column) ≡ whole → (text ++ 32 ∷ []) ++ spaces (width - (column + 1)) ≡ whole
space_more text whole column width lt is = append_assoc text (32 ∷ []) (spaces (width - (column + 1))) ∙ ap (λ rest. text ++ rest) (sym (spaces_next column width lt)) ∙ is
