-- What is found among the members of a list that is cut in two.
use Rattle.std.proofs.{Common.{◌≡◌, Bool, true, false, Option, None, Some, List, ◌++◌, refl, sym, ap, ◌∙◌}, lemmas.{Bool.{false≢true}, List.Folds.{find-append}}}
use Rattle.std.specs.{Prelude.{is_some, find, option_map}, Option.{option_or}}

module _ {A B : Type 0} (f : A → B) (p : A → Bool) (front back all : List A) (cut : all ≡ front ++ back) where
  pub found_in_front : is_some (option_map f (find p front)) ≡ true → option_map f (find p front) ≡ option_map f (find p all)
  found_in_front some = at (find p front) some ∙ sym (ap (λ xs. option_map f (find p xs)) cut ∙ ap (option_map f) (find-append p front back))
    where
      at : (o : Option A) → is_some (option_map f o) ≡ true → option_map f o ≡ option_map f (option_or o (find p back))
      at None e = absurd (false≢true e)
      at (Some x) e = refl

  pub found_behind : is_some (option_map f (find p front)) ≡ false → find p back ≡ find p all
  found_behind none = at (find p front) none ∙ sym (ap (find p) cut ∙ find-append p front back)
    where
      at : (o : Option A) → is_some (option_map f o) ≡ false → find p back ≡ option_or o (find p back)
      at None e = refl
      at (Some x) e = absurd (false≢true (sym e))
