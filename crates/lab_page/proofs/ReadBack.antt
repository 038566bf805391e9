-- An escaped text, read back.
use Rattle.std.{proofs.{Common.{◌≡◌, ℕ, ◌==◌, Bool, true, false, cond, List, [], ◌∷◌, ◌++◌, refl, sym, ap, ◌∙◌}, lemmas.Bool.{eqb-true}}, specs.Prelude.{codes}}
use Rattle.lab_drawing.specs.Text.{escaped, escaped_byte}
use Rattle.lab_page.specs.Untagged.{read_from, read_back, named_from, names_bytes}

-- a byte is read back, before what stands behind it
byte_by : (b : ℕ) (ys : List ℕ) (less more amp quote : Bool) → (b == 60) ≡ less → (b == 62) ≡ more → (b == 38) ≡ amp → (b == 34) ≡ quote
    → read_from false [] (cond less (codes "&lt;") (cond more (codes "&gt;") (cond amp (codes "&amp;") (cond quote (codes "&quot;") (b ∷ [])))) ++ ys) ≡ b ∷ read_from false [] ys
byte_by b ys true more amp quote e f g h = ap (λ n. n ∷ read_from false [] ys) (sym (eqb-true b 60 e))
byte_by b ys false true amp quote e f g h = ap (λ n. n ∷ read_from false [] ys) (sym (eqb-true b 62 f))
byte_by b ys false false true quote e f g h = ap (λ n. n ∷ read_from false [] ys) (sym (eqb-true b 38 g))
byte_by b ys false false false true e f g h = ap (λ n. n ∷ read_from false [] ys) (sym (eqb-true b 34 h))
byte_by b ys false false false false e f g h = ap (λ t. cond t [] (b ∷ []) ++ read_from t [] ys) g

-- so is a text
pub text_back : (text : List ℕ) → read_back (escaped text) ≡ text
text_back [] = refl
text_back (b ∷ bs) = byte_by b (escaped bs) (b == 60) (b == 62) (b == 38) (b == 34) refl refl refl refl ∙ ap (λ l. b ∷ l) (text_back bs)

-- an ampersand of an escaped byte begins a name
named_by : (b : ℕ) (ys : List ℕ) (less more amp quote : Bool) → (b == 38) ≡ amp
    → named_from false [] (cond less (codes "&lt;") (cond more (codes "&gt;") (cond amp (codes "&amp;") (cond quote (codes "&quot;") (b ∷ [])))) ++ ys) ≡ named_from false [] ys
named_by b ys true more amp quote g = refl
named_by b ys false true amp quote g = refl
named_by b ys false false true quote g = refl
named_by b ys false false false true g = refl
named_by b ys false false false false g = ap (λ t. named_from t [] ys) g

pub all_named : (text : List ℕ) → names_bytes (escaped text) ≡ true
all_named [] = refl
all_named (b ∷ bs) = named_by b (escaped bs) (b == 60) (b == 62) (b == 38) (b == 34) refl ∙ all_named bs
