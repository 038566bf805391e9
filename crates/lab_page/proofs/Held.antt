-- A text holds a part of a part of it.
use Rattle.std.proofs.{Common.{◌≡◌, ℕ, List, [], ◌++◌, refl, sym, ap, ◌∙◌, append_assoc}, lemmas.List.{append-nil}}
use Rattle.lab_page.specs.Untagged.{Holds}

-- a text holds itself
pub itself : (xs : List ℕ) → Holds xs xs
itself xs = ([], [], sym (append-nil xs))

-- it stands in front, or behind
pub in_front : (xs ys part : List ℕ) → Holds xs part → Holds (xs ++ ys) part
in_front xs ys part (before, behind, is) =
    (before, behind ++ ys, ap (λ l. l ++ ys) is ∙ append_assoc before (part ++ behind) ys ∙ ap (λ l. before ++ l) (append_assoc part behind ys))

pub behind_it : (xs ys part : List ℕ) → Holds ys part → Holds (xs ++ ys) part
behind_it xs ys part (before, behind, is) = (xs ++ before, behind, ap (λ l. xs ++ l) is ∙ sym (append_assoc xs before (part ++ behind)))

-- a part of a part
pub within : (whole part piece : List ℕ) → Holds whole part → Holds part piece → Holds whole piece
within whole part piece (before, behind, is) (front, back, are) = (
  before ++ front,
  back ++ behind,
  is ∙ ap (λ l. before ++ (l ++ behind)) are
      ∙ ap (λ l. before ++ l) (append_assoc front (piece ++ back) behind ∙ ap (λ l. front ++ l) (append_assoc piece back behind))
      ∙ sym (append_assoc before front (piece ++ (back ++ behind))),
)

-- of two texts each is held
pub front : (xs ys : List ℕ) → Holds (xs ++ ys) xs
front xs ys = in_front xs ys xs (itself xs)

pub back : (xs ys : List ℕ) → Holds (xs ++ ys) ys
back xs ys = behind_it xs ys ys (itself ys)
