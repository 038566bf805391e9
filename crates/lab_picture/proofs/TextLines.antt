-- The lines of a text are the text, and part no parentheses where they can end outside of them.
use Rattle.std.proofs.Common.{◌≡◌, ◌⊎◌, ℕ, suc, ◌+◌, ◌-◌, ◌==◌, ◌≤◌, ◌<◌, nat_le, true, false, ◌&&◌, cond, List, [], ◌∷◌, ◌++◌, take, drop, length, refl, sym, ap, ◌∙◌, subst, inl, inr, arith}
use Rattle.std.proofs.lemmas.{Bool.{eqb-true, eqb-false, ne_eqb, and_parts}, List.{append-nil, take-append-drop, take-take, length-take, length-drop}}
use Rattle.lab_picture.specs.{Lines.{lines_from}, TextLaws.{joined, depth_of, AreUnparted}, Text.{depth_behind, outside_from, last_outside, last_blank, first_place, cut, front, back}}

-- a blank outside parentheses leaves none open
blank_closed : (depth b : ℕ) → b ≡ 32 → depth ≡ 0 → depth_behind depth b ≡ 0
blank_closed depth b is none = subst (λ c. depth_behind depth c ≡ 0) (sym is) (subst (λ d. depth_behind d 32 ≡ 0) (sym none) refl)

-- what is found behind bytes that close what they open
abbrev Closes : ℕ → ℕ → List ℕ → ℕ → Type 0
Closes depth before bs r = (i : ℕ) × (r ≡ before + i) × (i ≤ length bs) × (depth_of depth (take i bs) ≡ 0)

further : (depth before b : ℕ) (bs : List ℕ) (r : ℕ) → Closes (depth_behind depth b) (before + 1) bs r → Closes depth before (b ∷ bs) r
further depth before b bs r (i, e, l, d) =
    let at : r ≡ before + suc i = omega (arith, e) in
    let within : suc i ≤ length (b ∷ bs) = omega (arith, l) in
    (suc i, at, within, d)

-- the place that is found is the one given, or behind bytes that close what they open
found : (last depth before : ℕ) (bs : List ℕ) → (outside_from last depth before bs ≡ last) ⊎ Closes depth before bs (outside_from last depth before bs)
found last depth before [] = inl refl
found last depth before (b ∷ bs) =
    elim ((b == 32) && (depth == 0)) as (λ t. ((b == 32) && (depth == 0)) ≡ t →
    (outside_from (cond t (before + 1) last) (depth_behind depth b) (before + 1) bs ≡ last)
    ⊎ Closes depth before (b ∷ bs) (outside_from (cond t (before + 1) last) (depth_behind depth b) (before + 1) bs)) [
      | true ↦ λ is.
          let parts = and_parts (b == 32) (depth == 0) is in
          let closed : depth_of depth (take 1 (b ∷ bs)) ≡ 0 = blank_closed depth b (eqb-true b 32 parts.0) (eqb-true depth 0 parts.1) in
          let within : 1 ≤ length (b ∷ bs) = omega arith in
          elim (found (before + 1) (depth_behind depth b) (before + 1) bs) [
            | inl e ↦ inr (1, e, within, closed)
            | inr more ↦ inr (further depth before b bs _ more)
          ]
      | false ↦ λ _.
          elim (found last (depth_behind depth b) (before + 1) bs) [
            | inl e ↦ inl e
            | inr more ↦ inr (further depth before b bs _ more)
          ]
    ] refl

-- up to the last blank outside parentheses none is left open
outside_closed : (text : List ℕ) → (last_outside text ≡ 0) ⊎ ((last_outside text ≤ length text) × (depth_of 0 (take (last_outside text) text) ≡ 0))
outside_closed text =
    elim (found 0 0 0 text) [
      | inl e ↦ inl e
      | inr (i, e, l, d) ↦
          let at : last_outside text ≡ i = omega (arith, e) in
          inr (subst (λ p. p ≤ length text) (sym at) l, subst (λ p. depth_of 0 (take p text) ≡ 0) (sym at) d)
    ]

module _ (width : ℕ) where
  -- a line that is cut leaves none open, or there is no blank outside parentheses where it could end
  cut_closed : (text : List ℕ) → (depth_of 0 (take (cut width text) text) ≡ 0) ⊎ (last_outside (take (width + 1) text) ≡ 0)
  cut_closed text =
      let head : List ℕ = take (width + 1) text in
      let place : ℕ = last_outside head in
      elim (place == 0) as (λ t. (place == 0) ≡ t →
      (depth_of 0 (take (cond t (cond (last_blank head == 0) width (last_blank head)) place) text) ≡ 0) ⊎ (place ≡ 0)) [
        | true ↦ λ is. inr (eqb-true place 0 is)
        | false ↦ λ is.
            elim (outside_closed head) [
              | inl none ↦ inr none
              | inr (within, closed) ↦
                  let short = length-take (width + 1) text in
                  let fits : place ≤ width + 1 = omega (arith, within, short) in
                  inl (subst (λ t. depth_of 0 t ≡ 0) (take-take place (width + 1) text fits) closed)
            ]
      ] refl

  module _ (some : 1 ≤ width) where
    -- it has a byte
    first_some : (place blank : ℕ) → 1 ≤ first_place place blank width
    first_some place blank =
        elim (place == 0) as (λ t. (place == 0) ≡ t → 1 ≤ cond t (cond (blank == 0) width blank) place) [
          | true ↦ λ _.
              elim (blank == 0) as (λ t. (blank == 0) ≡ t → 1 ≤ cond t width blank) [
                | true ↦ λ _. some
                | false ↦ λ isn't. let other : blank ≡ 0 → ⊥ = eqb-false blank 0 isn't in omega (arith, other)
              ] refl
          | false ↦ λ isn't. let other : place ≡ 0 → ⊥ = eqb-false place 0 isn't in omega (arith, other)
        ] refl

    -- what is left is shorter
    back_shorter : (text : List ℕ) → 1 ≤ length text → length (back width text) < length text
    back_shorter text long =
        elim (nat_le (length text) width) as (λ t. length (cond t [] (drop (cut width text) text)) < length text) [
          | true ↦ omega (arith, long)
          | false ↦
              let left = length-drop (cut width text) text in
              let moved = first_some (last_outside (take (width + 1) text)) (last_blank (take (width + 1) text)) in
              let cuts : 1 ≤ cut width text = moved in
              omega (arith, left, cuts, long)
        ]

    -- a first line and what is left are the text
    front_back : (text : List ℕ) → front width text ++ back width text ≡ text
    front_back text =
        elim (nat_le (length text) width) as (λ t. cond t text (take (cut width text) text) ++ cond t [] (drop (cut width text) text) ≡ text) [
          | true ↦ append-nil text
          | false ↦ take-append-drop (cut width text) text
        ]

    -- no text has no lines
    no_lines : (room : List ℕ) → lines_from width room [] ≡ []
    no_lines [] = refl
    no_lines (b ∷ room) = refl

    -- a text has a first line, and the lines of what is left
    lines_of_some : (b : ℕ) (room : List ℕ) (c : ℕ) (cs : List ℕ)
        → lines_from width (b ∷ room) (c ∷ cs) ≡ front width (c ∷ cs) ∷ lines_from width room (back width (c ∷ cs))
    lines_of_some b room c cs =
        let long : (length (c ∷ cs) == 0) ≡ false = ne_eqb (suc (length cs)) 0 (λ e. let none : suc (length cs) ≡ 0 = e in absurd (omega (arith, none))) in
        ap (λ t. cond t [] (front width (c ∷ cs) ∷ lines_from width room (back width (c ∷ cs)))) long

    -- the lines of a text are the text
    pub lines_joined : (room text : List ℕ) → length text ≤ length room → joined (lines_from width room text) ≡ text
    lines_joined [] [] l = refl
    lines_joined [] (c ∷ cs) l = let long : suc (length cs) ≤ 0 = l in absurd (omega (arith, long))
    lines_joined (b ∷ room) [] l = refl
    lines_joined (b ∷ room) (c ∷ cs) l =
        let text : List ℕ = c ∷ cs in
        let most : suc (length cs) ≤ suc (length room) = l in
        let shorter : length (back width text) < suc (length cs) = back_shorter text (let s : 1 ≤ suc (length cs) = omega arith in s) in
        let rest = lines_joined room (back width text) (omega (arith, most, shorter)) in
        ap joined (lines_of_some b room c cs) ∙ (ap (λ r. front width text ++ r) rest ∙ front_back text)

    -- a line before others
    line_before : (line : List ℕ) (rest : List (List ℕ)) → ((depth_of 0 line ≡ 0) ⊎ (last_outside (take (width + 1) (joined (line ∷ rest))) ≡ 0)) ⊎ (rest ≡ [])
        → AreUnparted width rest → AreUnparted width (line ∷ rest)
    line_before line [] ends u = tt
    line_before line (next ∷ lines) (inl ends) u = (ends, u)
    line_before line (next ∷ lines) (inr none) u = let long : suc (length lines) ≡ 0 = ap length none in absurd (omega (arith, long))

    -- where a first line ends
    front_ends : (room text : List ℕ) → length (back width text) ≤ length room
        → ((depth_of 0 (front width text) ≡ 0) ⊎ (last_outside (take (width + 1) (joined (front width text ∷ lines_from width room (back width text)))) ≡ 0))
        ⊎ (lines_from width room (back width text) ≡ [])
    front_ends room text l =
        let whole : joined (front width text ∷ lines_from width room (back width text)) ≡ text =
        ap (λ r. front width text ++ r) (lines_joined room (back width text) l) ∙ front_back text in
        let at : (r : List ℕ) → r ≡ text → (last_outside (take (width + 1) text) ≡ 0) → last_outside (take (width + 1) r) ≡ 0 =
        λ r is none. subst (λ t. last_outside (take (width + 1) t) ≡ 0) (sym is) none in
        elim (nat_le (length text) width) as (λ t.
        joined (front width text ∷ lines_from width room (back width text)) ≡ text →
        ((depth_of 0 (cond t text (take (cut width text) text)) ≡ 0) ⊎ (last_outside (take (width + 1) (joined (front width text ∷ lines_from width room (back width text)))) ≡ 0))
        ⊎ (lines_from width room (cond t [] (drop (cut width text) text)) ≡ [])) [
          | true ↦ λ _. inr (no_lines room)
          | false ↦ λ is.
              elim (cut_closed text) [
                | inl closed ↦ inl (inl closed)
                | inr none ↦ inl (inr (at _ is none))
              ]
        ] whole

    -- the lines of a text part no parentheses that a line has room for
    pub lines_unparted : (room text : List ℕ) → length text ≤ length room → AreUnparted width (lines_from width room text)
    lines_unparted [] text l = tt
    lines_unparted (b ∷ room) [] l = tt
    lines_unparted (b ∷ room) (c ∷ cs) l =
        let text : List ℕ = c ∷ cs in
        let most : suc (length cs) ≤ suc (length room) = l in
        let shorter : length (back width text) < suc (length cs) = back_shorter text (let s : 1 ≤ suc (length cs) = omega arith in s) in
        let fits : length (back width text) ≤ length room = omega (arith, most, shorter) in
        subst (AreUnparted width) (sym (lines_of_some b room c cs))
        (line_before (front width text) (lines_from width room (back width text)) (front_ends room text fits)
        (lines_unparted room (back width text) fits))
