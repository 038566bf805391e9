-- Texts with commas between them, one after another.
use Rattle.lab_printing.proofs.Common.{◌≡◌, ℕ, List, [], ◌∷◌, ◌++◌, sym, ap, ◌∙◌, append_assoc, append-nil, codes, joined}

-- each text behind a comma and a space
abbrev pub followed : List (List ℕ) → List ℕ
followed [] = []
followed (text ∷ texts) = codes ", " ++ text ++ followed texts

-- the first text stands alone, each other one behind a comma
pub joined_is : (text : List ℕ) (texts : List (List ℕ)) → joined (text ∷ texts) ≡ text ++ followed texts
joined_is text [] = sym (append-nil text)
joined_is text (more ∷ texts) = ap (λ rest. text ++ codes ", " ++ rest) (joined_is more texts) ∙ append_assoc text (codes ", ") (more ++ followed texts)

-- where nothing is left, the whole list stands behind the start
pub all_joined : (start out text : List ℕ) (texts left : List (List ℕ)) → left ≡ [] → out ++ followed left ≡ start ++ text ++ followed texts → out ≡ start ++ joined (text ∷ texts)
all_joined start out text texts left none is =
    sym (append-nil out) ∙ ap (λ rest. out ++ followed rest) (sym none) ∙ is ∙ append_assoc start text (followed texts) ∙ ap (λ rest. start ++ rest) (sym (joined_is text texts))
