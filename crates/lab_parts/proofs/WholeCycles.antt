-- Of sound parts that fit a run has exactly the cycles that its parts have.
use Rattle.std.{proofs.{Common.{◌≡◌, ℕ, zero, suc, Some, List, [], ◌∷◌, map, refl, sym, ap, ◌∙◌, subst, ◌⊎◌, inl, inr}, lemmas.{List.Elements.{All-head, All-tail}, Option.{none-some, same_Some}}}, specs.{Prelude.{slice_get}, List.{All}}}
use Rattle.lab_history.specs.History.{History}
use Rattle.lab_deps.specs.Soundness.{IsSound}
use Rattle.lab_parts.{specs.{Whole.{joined, whole, Fits}, WholeFindings.{IsOfPart, HasThoseOfParts}}, proofs.{SplitWalks.{Splits}, WholeFree.{splits_ahead}}}

-- what a list has in two parts it has in the first, or in the second before it was moved
pub record SplitsExactly {X : Type 0} (Is : History → List X → Type 0) (move : History → X → X) (a b : History) : Type 0 where
  pub first : (xs : List X) → Is a xs → Is (joined a b) xs
  pub second : (xs : List X) → Is b xs → Is (joined a b) (map (move a) xs)
  pub each : (xs : List X) → Is (joined a b) xs → Is a xs ⊎ ((ys : List X) × Is b ys × (xs ≡ map (move a) ys))

module _ {X : Type 0} (f : X → X) where
  -- what leaves each thing as it is leaves lists so
  map_same : ((x : X) → f x ≡ x) → (xs : List X) → map f xs ≡ xs
  map_same same [] = refl
  map_same same (x ∷ xs) = ap (λ y. y ∷ map f xs) (same x) ∙ ap (λ ys. x ∷ ys) (map_same same xs)

  -- two moves, one after the other, are one
  map_after : (g h : X → X) → ((x : X) → h x ≡ f (g x)) → (xs : List X) → map h xs ≡ map f (map g xs)
  map_after g h is [] = refl
  map_after g h is (x ∷ xs) = ap (λ y. y ∷ map h xs) (is x) ∙ ap (λ ys. f (g x) ∷ ys) (map_after g h is xs)

module _
    {X : Type 0}
    (Is : History → List X → Type 0)
    (move : History → X → X)
    (put : History → List History → ℕ → X → X)
    (put_first : (first : History) (parts : List History) (x : X) → put first parts 0 x ≡ x)
    (put_later : (first part : History) (parts : List History) (place : ℕ) (x : X) → put first (part ∷ parts) (suc place) x ≡ move first (put part parts place x))
    (split : (a b : History) → Splits a b → SplitsExactly Is move a b) where
  -- one of the first part
  of_first : (first : History) (parts : List History) (xs : List X) → Is first xs → IsOfPart Is put first parts xs
  of_first first parts xs is = record { place = 0; part = first; is_part = refl; there = xs; is_one = is; moved_is = sym (map_same (put first parts 0) (put_first first parts) xs) }

  -- one of a later part
  of_later : (first part : History) (parts : List History) (xs ys : List X) → xs ≡ map (move first) ys → IsOfPart Is put part parts ys → IsOfPart Is put first (part ∷ parts) xs
  of_later first part parts xs ys moved_so o = record {
    place = suc o.place;
    part = o.part;
    is_part = o.is_part;
    there = o.there;
    is_one = o.is_one;
    moved_is = moved_so ∙ ap (map (move first)) o.moved_is
        ∙ sym (map_after (move first) (put part parts o.place) (put first (part ∷ parts) (suc o.place)) (put_later first part parts o.place) o.there);
  }

  -- each of the run is one of a part
  each_of_part : (first : History) (parts : List History) → IsSound first → All IsSound parts → Fits first parts → (xs : List X) → Is (whole first parts) xs → IsOfPart Is put first parts xs
  each_of_part first [] sound all fits xs is = of_first first [] xs is
  each_of_part first (part ∷ parts) sound all fits xs is =
      elim ((split first (whole part parts) (splits_ahead first part parts sound fits)).each xs is) [
        | inl here ↦ of_first first (part ∷ parts) xs here
        | inr later ↦ of_later first part parts xs later.0 later.2 (each_of_part part parts (All-head IsSound part parts all) (All-tail IsSound part parts all) fits.1 later.0 later.1)
      ]

  -- and each of a part, moved, is one of the run
  part_in_run : (first : History) (parts : List History) → IsSound first → All IsSound parts → Fits first parts → (place : ℕ) (part : History) → slice_get (first ∷ parts) place ≡ Some part
      → (ys : List X) → Is part ys → Is (whole first parts) (map (put first parts place) ys)
  part_in_run first [] sound all fits zero part at ys is =
      subst (Is first) (sym (map_same (put first [] 0) (put_first first []) ys)) (subst (λ h. Is h ys) (sym (same_Some first part at)) is)
  part_in_run first [] sound all fits (suc place) part at ys is = absurd (none-some part at)
  part_in_run first (next ∷ parts) sound all fits zero part at ys is =
      subst (Is (whole first (next ∷ parts))) (sym (map_same (put first (next ∷ parts) 0) (put_first first (next ∷ parts)) ys))
      ((split first (whole next parts) (splits_ahead first next parts sound fits)).first ys (subst (λ h. Is h ys) (sym (same_Some first part at)) is))
  part_in_run first (next ∷ parts) sound all fits (suc place) part at ys is =
      subst (Is (whole first (next ∷ parts))) (sym (map_after (move first) (put next parts place) (put first (next ∷ parts) (suc place)) (put_later first next parts place) ys))
      ((split first (whole next parts) (splits_ahead first next parts sound fits)).second (map (put next parts place) ys)
      (part_in_run next parts (All-head IsSound next parts all) (All-tail IsSound next parts all) fits.1 place part at ys is))

  pub those_of_parts : HasThoseOfParts Is put
  those_of_parts first parts sound all fits xs = (
    each_of_part first parts sound all fits xs,
    (λ o. subst (Is (whole first parts)) (sym o.moved_is) (part_in_run first parts sound all fits o.place o.part o.is_part o.there o.is_one)),
  )
