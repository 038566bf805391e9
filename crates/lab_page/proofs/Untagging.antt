-- What stands in a page once its tags are taken away.
use Rattle.std.{proofs.{Common.{◌≡◌, ℕ, ◌==◌, Bool, true, false, not, ◌&&◌, cond, List, [], ◌∷◌, ◌++◌, take, drop, refl, sym, ap, subst, ◌∙◌, append_assoc}, lemmas.{Bool.{and_parts}, Grind.{flat_map-append}, List.{take-append-drop, append-nil}}}, specs.{Prelude.{codes, flat_map}, List.{list_all}}}
use Rattle.lab_drawing.{specs.Text.{escaped, escaped_byte, is_plain}, proofs.Escapes.{no_markup}}
use Rattle.lab_overview.specs.Sentences.{lead_length, led_text, paragraph_text}
use Rattle.lab_page.specs.Untagged.{is_inside, kept, untagged, Holds, Shows}

is_true : (b : Bool) → not b ≡ true → b ≡ false
is_true true e = sym e
is_true false e = refl

-- a plain byte begins no tag
no_tag : (b : ℕ) → is_plain b ≡ true → (b == 60) ≡ false
no_tag b e = is_true (b == 60) (and_parts (not (b == 60)) (not (b == 62) && not (b == 34)) e).0

-- a text without markup stays
plain_stays : (xs ys : List ℕ) → list_all is_plain xs ≡ true → untagged false (xs ++ ys) ≡ xs ++ untagged false ys
plain_stays [] ys e = refl
plain_stays (x ∷ xs) ys e =
    let parts = and_parts (is_plain x) (list_all is_plain xs) e in
    ap (λ b. cond b [] (x ∷ []) ++ untagged b (xs ++ ys)) (no_tag x parts.0) ∙ ap (λ l. x ∷ l) (plain_stays xs ys parts.1)

pub escaped_stays : (text ys : List ℕ) → untagged false (escaped text ++ ys) ≡ escaped text ++ untagged false ys
escaped_stays text ys = plain_stays (escaped text) ys (no_markup text)

-- what stands behind a text is read from inside of a tag or from outside
abbrev Passed : Bool → List ℕ → List ℕ → Type 0
Passed inside xs ys = (front : List ℕ) × (then : Bool) × (untagged inside (xs ++ ys) ≡ front ++ untagged then ys)

passes : (inside : Bool) (xs ys : List ℕ) → Passed inside xs ys
passes inside [] ys = ([], inside, refl)
passes inside (x ∷ xs) ys =
    let more : Passed (is_inside inside x) xs ys = passes (is_inside inside x) xs ys in
    (kept inside x ++ more.0, more.1, ap (λ l. kept inside x ++ l) more.2 ∙ sym (append_assoc (kept inside x) more.0 (untagged more.1 ys)))

-- a text that ends with a tag: what stands behind it is outside, wherever the text was begun
abbrev pub Closes : List ℕ → Type 0
Closes tag = (inside : Bool) (ys : List ℕ) → (front : List ℕ) × (untagged inside (tag ++ ys) ≡ front ++ untagged false ys)

-- a page shows what stands escaped behind a tag
pub shown_behind : (page tag text : List ℕ) → Closes tag → Holds page (tag ++ escaped text) → Shows page text
shown_behind page tag text closes (before, behind, is) =
    let passed : Passed false before ((tag ++ escaped text) ++ behind) = passes false before ((tag ++ escaped text) ++ behind) in
    let closed : (front : List ℕ) × (untagged passed.1 (tag ++ (escaped text ++ behind)) ≡ front ++ untagged false (escaped text ++ behind)) = closes passed.1 (escaped text ++ behind) in (
      passed.0 ++ closed.0,
      untagged false behind,
      ap (untagged false) is ∙ passed.2
          ∙ ap (λ l. passed.0 ++ l) (ap (untagged passed.1) (append_assoc tag (escaped text) behind) ∙ closed.1 ∙ ap (λ l. closed.0 ++ l) (escaped_stays text behind))
          ∙ sym (append_assoc passed.0 closed.0 (escaped text ++ untagged false behind)),
    )

bold_closes : (inside : Bool) (ys : List ℕ) → untagged inside (codes "<b>" ++ ys) ≡ untagged false ys
bold_closes true ys = refl
bold_closes false ys = refl

bold_ends : (ys : List ℕ) → untagged false (codes "</b>" ++ ys) ≡ untagged false ys
bold_ends ys = refl

-- four texts before what stands behind them
behind_four : (a b c d ys : List ℕ) → (a ++ b ++ c ++ d) ++ ys ≡ a ++ (b ++ (c ++ (d ++ ys)))
behind_four a b c d ys = append_assoc (a ++ b ++ c) d ys ∙ (append_assoc (a ++ b) c (d ++ ys) ∙ append_assoc a b (c ++ (d ++ ys)))

-- a sentence in two parts
in_two : (text : List ℕ) → escaped (take (lead_length text) text) ++ escaped (drop (lead_length text) text) ≡ escaped text
in_two text = sym (flat_map-append escaped_byte (take (lead_length text) text) (drop (lead_length text) text)) ∙ ap escaped (take-append-drop (lead_length text) text)

-- a sentence without its tags, before what stands behind it
led_stays : (inside : Bool) (text ys : List ℕ) → untagged inside (led_text text ++ ys) ≡ escaped text ++ untagged false ys
unfolding led_text
led_stays inside text ys =
    let lead : List ℕ = escaped (take (lead_length text) text) in
    let rest : List ℕ = escaped (drop (lead_length text) text) in
    let more : List ℕ = codes "</b>" ++ (rest ++ ys) in
    ap (untagged inside) (behind_four (codes "<b>") lead (codes "</b>") rest ys) ∙ (bold_closes inside (lead ++ more)
    ∙ (escaped_stays (take (lead_length text) text) more
    ∙ (ap (λ l. lead ++ l) (bold_ends (rest ++ ys) ∙ escaped_stays (drop (lead_length text) text) ys)
    ∙ (sym (append_assoc lead rest (untagged false ys)) ∙ ap (λ l. l ++ untagged false ys) (in_two text)))))

-- a sentence without its tags
pub led_untagged : (text : List ℕ) → untagged false (led_text text) ≡ escaped text
led_untagged text = ap (untagged false) (sym (append-nil (led_text text))) ∙ led_stays false text [] ∙ append-nil (escaped text)

-- a page shows a sentence that is led
pub shown_led : (page text : List ℕ) → Holds page (led_text text) → Shows page text
shown_led page text (before, behind, is) =
    let passed : Passed false before (led_text text ++ behind) = passes false before (led_text text ++ behind) in
    (passed.0, untagged false behind, ap (untagged false) is ∙ passed.2 ∙ ap (λ l. passed.0 ++ l) (led_stays passed.1 text behind))
