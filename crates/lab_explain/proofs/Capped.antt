-- How many lines a text has.
use Rattle.std.proofs.{Common.{◌≡◌, ◌≢◌, ℕ, zero, suc, ◌+◌, ◌-◌, ◌/◌, ◌%◌, ◌≤◌, ◌<◌, Bool, true, false, cond, Option, Some, None, List, [], ◌∷◌, ◌++◌, refl, sym, ap, ◌∙◌, arith, inl, inr, subst}, lemmas.{Bool.{cases_Bool, eqb-false, Decides.{nat_tests}}, List.Sums.{sum_by-append}}}
use Rattle.std.specs.{Prelude.{◌==◌, nat_le, codes}, Fmt.{digits, digits_onto, digit_glyph, decimal}}
use Rattle.lab_explain.specs.Lines.{lines, first_lines, left_out, joined, begun, placed, room_behind, standing, front, with_left_out, cut, capped}

-- no lines of a text are nothing
pub none_first : (n : ℕ) (text : List ℕ) → n ≡ 0 → first_lines n text ≡ []
none_first n [] e = refl
none_first n (b ∷ bs) e = ap (λ m. cond (m == 0) [] (b ∷ first_lines (cond (b == 10) (n - 1) n) bs)) e

-- a byte that ends a line, or doesn't
abbrev ends : ℕ → ℕ
ends b = cond (b == 10) 1 0

-- the lines of two texts behind each other
pub lines_append : (one other : List ℕ) → lines (one ++ other) ≡ lines one + lines other
lines_append one other = sum_by-append ends one other

-- the lines of a text behind its first byte
lines_cons : (b : ℕ) (bs : List ℕ) → lines (b ∷ bs) ≡ ends b + lines bs
lines_cons b bs = let one : lines (b ∷ []) ≡ ends b = omega arith in lines_append (b ∷ []) bs ∙ ap (λ k. k + lines bs) one

glyph_ends : (d : ℕ) → d < 10 → (digit_glyph false d == 10) ≡ false
glyph_ends d lt = grind (arith, nat_tests)

glyph_adds : (d : ℕ) (rest : List ℕ) → d < 10 → lines (digit_glyph false d ∷ rest) ≡ lines rest
glyph_adds d rest lt = let none : ends (digit_glyph false d) ≡ 0 = ap (λ v. cond v 1 0) (glyph_ends d lt) in omega (arith, lines_cons (digit_glyph false d) rest, none)

digits_lines : (k n : ℕ) (rest : List ℕ) → lines (digits_onto k 10 false n rest) ≡ lines rest
digits_lines zero n rest = refl
digits_lines (suc k) n rest =
    let small : n % 10 < 10 = omega arith in
    elim (n / 10 == 0) as (λ v. lines (cond v (digit_glyph false (n % 10) ∷ rest) (digits_onto k 10 false (n / 10) (digit_glyph false (n % 10) ∷ rest))) ≡ lines rest) [
      | true ↦ glyph_adds (n % 10) rest small
      | false ↦ digits_lines k (n / 10) (digit_glyph false (n % 10) ∷ rest) ∙ glyph_adds (n % 10) rest small
    ]

-- a number ends no line
decimal_lines : (n : ℕ) → lines (decimal n) ≡ 0
unfolding digits
decimal_lines n = digits_lines 64 n []

-- what is said of what is left out is one line
left_out_lines : (n : ℕ) → lines (left_out n) ≡ 1
unfolding left_out
left_out_lines n =
    let front : lines (codes "  .. and ") ≡ 0 = refl in
    let back : lines (codes " lines more\n") ≡ 1 = refl in
    let all = lines_append (codes "  .. and ") (decimal n ++ codes " lines more\n") in
    let rest = lines_append (decimal n) (codes " lines more\n") in
    omega (arith, front, back, all, rest, decimal_lines n)

-- so many first lines are no more
module _ (b : ℕ) (bs : List ℕ) where
  one_more : (n : ℕ) (v : Bool) → n ≢ 0 → lines (first_lines (cond v (n - 1) n) bs) ≤ cond v (n - 1) n → cond v 1 0 + lines (first_lines (cond v (n - 1) n) bs) ≤ n
  one_more n true some le = omega (arith, le, some)
  one_more n false some le = omega (arith, le)

first_few : (n : ℕ) (text : List ℕ) → lines (first_lines n text) ≤ n
first_few n [] = omega arith
first_few n (b ∷ bs) =
    elim (cases_Bool (n == 0)) [
      | inl is ↦ subst (λ v. lines (cond v [] (b ∷ first_lines (cond (b == 10) (n - 1) n) bs)) ≤ n) (sym is) (omega arith)
      | inr isnt ↦
          subst (λ v. lines (cond v [] (b ∷ first_lines (cond (b == 10) (n - 1) n) bs)) ≤ n) (sym isnt)
          (subst (λ k. k ≤ n) (sym (lines_cons b (first_lines (cond (b == 10) (n - 1) n) bs))) (one_more b bs n (b == 10) (eqb-false n 0 isnt) (first_few (cond (b == 10) (n - 1) n) bs)))
    ]

-- room as a number of lines
abbrev of_room : Option ℕ → ℕ
of_room None = 0
of_room (Some room) = room

-- what stands of a sentence, and the room behind it, are no more than the room before it
module _ (most room : ℕ) (s : List ℕ) where
  begun_few : (v : Bool) → lines (cond v [] (first_lines room s)) ≤ room
  begun_few true = omega arith
  begun_few false = first_few room s

  placed_within : (v : Bool) → nat_le (lines s) room ≡ v → lines (cond v s (begun most room s)) + of_room (cond v (Some (room - lines s)) None) ≤ room
  placed_within true is = let few : lines s ≤ room = grind (arith, nat_tests, is) in omega (arith, few)
  placed_within false is = omega (arith, begun_few (nat_le (lines s) most))

placed_few : (most : ℕ) (room : Option ℕ) (s : List ℕ) → lines (placed most room s) + of_room (room_behind room s) ≤ of_room room
placed_few most None s = omega arith
placed_few most (Some room) s = placed_within most room s (nat_le (lines s) room) refl

-- what stands of some sentences has no more lines than there is room
standing_few : (most : ℕ) (room : Option ℕ) (sentences : List (List ℕ)) → lines (standing most room sentences) ≤ of_room room
standing_few most room [] = omega arith
standing_few most room (s ∷ ss) =
    omega (arith, lines_append (placed most room s) (standing most (room_behind room s) ss), placed_few most room s, standing_few most (room_behind room s) ss)

-- with how many are left out it has one line more
pub left_out_few : (count most : ℕ) (text : List ℕ) → lines text ≤ most → lines (with_left_out count text) ≤ most + 1
unfolding with_left_out
left_out_few count most text few = omega (arith, few, lines_append text (left_out (count - lines text)), left_out_lines (count - lines text))

pub cut_few : (most : ℕ) (sentences : List (List ℕ)) → 1 ≤ most → lines (cut most sentences) ≤ most
cut_few most sentences some =
    let few = left_out_few (lines (joined sentences)) (most - 1) (front (most - 1) sentences) (standing_few (most - 1) (Some (most - 1)) sentences) in
    omega (arith, few, some)

-- some sentences are within their cap
within_cap : (most : ℕ) (sentences : List (List ℕ)) (v : Bool) → nat_le (lines (joined sentences)) most ≡ v → 1 ≤ most → lines (cond v (joined sentences) (cut most sentences)) ≤ most
within_cap most sentences true is some = grind (arith, nat_tests)
within_cap most sentences false is some = cut_few most sentences some

pub few_lines : (most : ℕ) (sentences : List (List ℕ)) → 1 ≤ most → lines (capped most sentences) ≤ most
few_lines most sentences some = within_cap most sentences (nat_le (lines (joined sentences)) most) refl some
