-- One line more of a text.
use Rattle.std.proofs.{Common.{◌≡◌, ℕ, zero, suc, ◌+◌, ◌<◌, cond, List, [], ◌∷◌, ◌++◌, drop, length, refl, sym, ap, ◌∙◌, subst, append_assoc, arith}, lemmas.{Bool.{ne_eqb, eq-eqb}, List.{append-nil}}}
use Rattle.lab_picture.specs.{Lines.{lines_from, lines_at}, Text.{front, back, line_at}}

module _ (width : ℕ) where
  -- an empty text has no line
  pub none_at : (room rest : List ℕ) → length rest ≡ 0 → lines_from width room rest ≡ []
  none_at [] rest none = refl
  none_at (b ∷ room) rest none = ap (λ t. cond t [] (front width rest ∷ lines_from width room (back width rest))) (eq-eqb (length rest) 0 none)

  -- another has its first line, and those of what is left
  some_at : (text : List ℕ) (i : ℕ) (rest : List ℕ) → i < length text → (length rest ≡ 0 → ⊥)
      → lines_from width (drop i text) rest ≡ front width rest ∷ lines_from width (drop (suc i) text) (back width rest)
  some_at [] i rest l some = let none : i < 0 = l in absurd (omega (arith, none))
  some_at (b ∷ text) zero rest l some = ap (λ t. cond t [] (front width rest ∷ lines_from width text (back width rest))) (ne_eqb (length rest) 0 some)
  some_at (b ∷ text) (suc i) rest l some = let most : suc i < suc (length text) = l in some_at text i rest (omega (arith, most)) some

  -- a line is counted
  pub counted : (text : List ℕ) (i : ℕ) (rest next : List ℕ) (count whole : ℕ) → i < length text → (length rest ≡ 0 → ⊥) → next ≡ back width rest
      → count + length (lines_from width (drop i text) rest) ≡ whole → count + 1 + length (lines_from width (drop (i + 1) text) next) ≡ whole
  counted text i rest next count whole l some is same =
      let step : length (lines_from width (drop i text) rest) ≡ suc (length (lines_from width (drop (suc i) text) (back width rest))) = ap length (some_at text i rest l some) in
      let at : i + 1 ≡ suc i = omega arith in
      let moved : count + 1 + length (lines_from width (drop (suc i) text) (back width rest)) ≡ whole = omega (arith, step, same) in
      subst (λ k. count + 1 + length (lines_from width (drop k text) next) ≡ whole) (sym at)
      (subst (λ t. count + 1 + length (lines_from width (drop (suc i) text) t) ≡ whole) (sym is) moved)

  -- a line is written
  pub written : (x y : ℕ) (text : List ℕ) (i : ℕ) (rest line next old new whole : List ℕ) → i < length text → (length rest ≡ 0 → ⊥) → line ≡ front width rest
      → next ≡ back width rest → new ≡ old ++ line_at [] x y line → old ++ lines_at x y (lines_from width (drop i text) rest) ≡ whole
      → new ++ lines_at x (y + 13) (lines_from width (drop (i + 1) text) next) ≡ whole
  written x y text i rest line next old new whole l some first is appended same =
      let at : i + 1 ≡ suc i = omega arith in
      let ends : List ℕ = lines_at x (y + 13) (lines_from width (drop (suc i) text) (back width rest)) in
      let step : lines_at x y (lines_from width (drop i text) rest) ≡ line_at [] x y (front width rest) ++ ends = ap (lines_at x y) (some_at text i rest l some) in
      let moved : (old ++ line_at [] x y (front width rest)) ++ ends ≡ whole =
      append_assoc old (line_at [] x y (front width rest)) ends ∙ (ap (λ r. old ++ r) (sym step) ∙ same) in
      let new_is : new ≡ old ++ line_at [] x y (front width rest) = appended ∙ ap (λ t. old ++ line_at [] x y t) first in
      subst (λ k. new ++ lines_at x (y + 13) (lines_from width (drop k text) next) ≡ whole) (sym at)
      (subst (λ t. new ++ lines_at x (y + 13) (lines_from width (drop (suc i) text) t) ≡ whole) (sym is)
      (subst (λ r. r ++ ends ≡ whole) (sym new_is) moved))

  -- none is left to write
  pub all_written : (x y : ℕ) (room rest old whole : List ℕ) → length rest ≡ 0 → old ++ lines_at x y (lines_from width room rest) ≡ whole → old ≡ whole
  all_written x y room rest old whole none same =
      sym (append-nil old) ∙ (ap (λ ls. old ++ lines_at x y ls) (sym (none_at room rest none)) ∙ same)
