-- An escaped text has no markup.
use Rattle.std.{proofs.{Common.{◌≡◌, ℕ, ◌==◌, Bool, true, false, not, ◌&&◌, cond, List, [], ◌∷◌, ◌++◌, refl, ap}, lemmas.Bool.{and_parts, and_from}}, specs.{Prelude.{codes}, List.{list_all}}}
use Rattle.lab_drawing.specs.Text.{escaped_byte, escaped, is_plain}

all_joined : (xs ys : List ℕ) → list_all is_plain xs ≡ true → list_all is_plain ys ≡ true → list_all is_plain (xs ++ ys) ≡ true
all_joined [] ys a b = b
all_joined (x ∷ xs) ys a b =
    let parts = and_parts (is_plain x) (list_all is_plain xs) a in
    and_from (is_plain x) (list_all is_plain (xs ++ ys)) parts.0 (all_joined xs ys parts.1 b)

by_tests : (b : ℕ) (less more amp quote : Bool) → (b == 60) ≡ less → (b == 62) ≡ more → (b == 34) ≡ quote
    → list_all is_plain (cond less (codes "&lt;") (cond more (codes "&gt;") (cond amp (codes "&amp;") (cond quote (codes "&quot;") (b ∷ []))))) ≡ true
by_tests b true more amp quote e f g = refl
by_tests b false true amp quote e f g = refl
by_tests b false false true quote e f g = refl
by_tests b false false false true e f g = refl
by_tests b false false false false e f g =
    and_from (is_plain b) true (and_from (not (b == 60)) (not (b == 62) && not (b == 34)) (ap not e) (and_from (not (b == 62)) (not (b == 34)) (ap not f) (ap not g))) refl

pub no_markup : (text : List ℕ) → list_all is_plain (escaped text) ≡ true
no_markup [] = refl
no_markup (b ∷ bs) = all_joined (escaped_byte b) (escaped bs) (by_tests b (b == 60) (b == 62) (b == 38) (b == 34) refl refl refl) (no_markup bs)
