-- The code and the remark of a line, by where two dashes stand in it.
use Rattle.lab_statement.proofs.Common.{◌≡◌, ℕ, ◌+◌, ◌<◌, ◌≤◌, Bool, true, false, List, [], ◌∷◌, length, take, drop, get_or, refl, sym, ap, ◌∙◌, arith, zero, suc, ◌==◌, Some, cases_Bool, inl, inr, cond, same_Some, eqb-true, false≢true, false_from_ne_true, and_parts, begins_remark, code_of, remark_of}
use Rattle.std.specs.Prelude.{slice_get}
use Rattle.bstr.specs.Find.{OccursAt}

-- two dashes
abbrev dashes : List ℕ
dashes = 45 ∷ 45 ∷ []

-- where a remark begins, two dashes stand
occurs : (line : List ℕ) → begins_remark line ≡ true → OccursAt line dashes 0
occurs [] is = absurd (false≢true is)
occurs (x ∷ []) is = absurd (false≢true is)
occurs (x ∷ y ∷ line) is = let both = and_parts (x == 45) (y == 45) is in record { fits = omega arith; reads = read (eqb-true x 45 both.0) (eqb-true y 45 both.1) }
  where
    read : x ≡ 45 → y ≡ 45 → (j : ℕ) → j < 2 → get_or (x ∷ y ∷ line) (0 + j) 0 ≡ get_or dashes j 0
    read one other zero low = one
    read one other (suc zero) low = other
    read one other (suc (suc j)) low = absurd (omega (arith, low))

-- where two dashes stand, a remark begins
begins : (line : List ℕ) → OccursAt line dashes 0 → begins_remark line ≡ true
begins [] at = absurd (omega (arith, at.fits))
begins (x ∷ []) at = absurd (omega (arith, at.fits))
begins (x ∷ y ∷ line) at =
    let one : x ≡ 45 = at.reads 0 (omega arith) in
    let other : y ≡ 45 = at.reads 1 (omega arith) in
    rw (one, other) refl

-- dashes stand one further on behind one more byte
one_on : (b : ℕ) (bytes : List ℕ) (k j : ℕ) → get_or (b ∷ bytes) (suc k + j) 0 ≡ get_or bytes (k + j) 0
one_on b bytes k j = let next : suc k + j ≡ suc (k + j) = omega arith in ap (λ (n : ℕ). get_or (b ∷ bytes) n 0) next

further : (b : ℕ) (bytes : List ℕ) (k : ℕ) → OccursAt bytes dashes k → OccursAt (b ∷ bytes) dashes (suc k)
further b bytes k at = record { fits = omega (arith, at.fits); reads = λ j low. one_on b bytes k j ∙ at.reads j low }

nearer : (b : ℕ) (bytes : List ℕ) (k : ℕ) → OccursAt (b ∷ bytes) dashes (suc k) → OccursAt bytes dashes k
nearer b bytes k at = record { fits = omega (arith, at.fits); reads = λ j low. sym (one_on b bytes k j) ∙ at.reads j low }

-- no remark begins where no dashes stand
begins_not : (line : List ℕ) → (OccursAt line dashes 0 → ⊥) → begins_remark line ≡ false
begins_not line none = false_from_ne_true _ (λ is. none (occurs line is))

-- the code and the remark round the first two dashes
pub cut_there : (line : List ℕ) (i : ℕ) → OccursAt line dashes i → ((k : ℕ) → 0 ≤ k → k < i → OccursAt line dashes k → ⊥) → (take i line ≡ code_of line) × (drop (i + 2) line ≡ remark_of line)
cut_there [] i at none = absurd (omega (arith, at.fits))
cut_there (b ∷ bytes) zero at none = rw (begins (b ∷ bytes) at) (refl, refl)
cut_there (b ∷ bytes) (suc i) at none =
    let behind = cut_there bytes i (nearer b bytes i at) (λ k low before here. none (suc k) (omega arith) (omega (arith, before)) (further b bytes k here)) in
    let next : suc i + 2 ≡ suc (i + 2) = omega arith in
    rw (next, begins_not (b ∷ bytes) (none 0 (omega arith) (omega arith))) (ap (λ (code : List ℕ). b ∷ code) behind.0, behind.1)

-- without two dashes the whole line is code
pub no_cut : (line : List ℕ) → ((k : ℕ) → 0 ≤ k → k < length line + 1 → OccursAt line dashes k → ⊥) → (line ≡ code_of line) × ([] ≡ remark_of line)
no_cut [] none = (refl, refl)
no_cut (b ∷ bytes) none =
    let behind = no_cut bytes (λ k low before here. none (suc k) (omega arith) (omega (arith, before)) (further b bytes k here)) in
    rw (begins_not (b ∷ bytes) (none 0 (omega arith) (omega arith))) (ap (λ (code : List ℕ). b ∷ code) behind.0, behind.1)

-- a text without two dashes side by side is code, and so are no others
abbrev pub IsUndashed : List ℕ → Type 0
IsUndashed text = (n : ℕ) → slice_get text n ≡ Some 45 → slice_get text (n + 1) ≡ Some 45 → ⊥

next_byte : (b n : ℕ) (bytes : List ℕ) → slice_get (b ∷ bytes) (suc n + 1) ≡ slice_get bytes (n + 1)
next_byte b n bytes = let next : suc n + 1 ≡ suc (n + 1) = omega arith in ap (λ (k : ℕ). slice_get (b ∷ bytes) k) next

none_begins : (b : ℕ) (bytes : List ℕ) → IsUndashed (b ∷ bytes) → begins_remark (b ∷ bytes) ≡ false
none_begins b [] none = refl
none_begins b (c ∷ bytes) none = false_from_ne_true _ (λ is. let both = and_parts (b == 45) (c == 45) is in none 0 (ap Some (eqb-true b 45 both.0)) (ap Some (eqb-true c 45 both.1)))

pub undashed_code : (text : List ℕ) → IsUndashed text → code_of text ≡ text
undashed_code [] none = refl
undashed_code (b ∷ bytes) none =
    ap (λ (v : Bool). cond v [] (b ∷ code_of bytes)) (none_begins b bytes none)
    ∙ ap (λ (bs : List ℕ). b ∷ bs) (undashed_code bytes (λ n one other. none (suc n) one (next_byte b n bytes ∙ other)))

begun_there : (b : ℕ) (bytes : List ℕ) → b ≡ 45 → slice_get bytes 0 ≡ Some 45 → begins_remark (b ∷ bytes) ≡ true
begun_there b [] one other = absurd cc
begun_there b (c ∷ bytes) one other = rw (one, same_Some c 45 other) refl

pub code_undashed : (text : List ℕ) → code_of text ≡ text → IsUndashed text
code_undashed [] all n one other = absurd cc
code_undashed (b ∷ bytes) all n one other =
    elim (cases_Bool (begins_remark (b ∷ bytes))) [
      | inl is ↦ let none : [] ≡ b ∷ bytes = sym (ap (λ (v : Bool). cond v [] (b ∷ code_of bytes)) is) ∙ all in absurd cc
      | inr isnt ↦
          let same : b ∷ code_of bytes ≡ b ∷ bytes = sym (ap (λ (v : Bool). cond v [] (b ∷ code_of bytes)) isnt) ∙ all in
          at isnt (cc) (code_undashed bytes) n one other
    ]
  where
    at : begins_remark (b ∷ bytes) ≡ false → code_of bytes ≡ bytes → (code_of bytes ≡ bytes → IsUndashed bytes) → (k : ℕ) → slice_get (b ∷ bytes) k ≡ Some 45 → slice_get (b ∷ bytes) (k + 1) ≡ Some 45 → ⊥
    at isnt code behind zero here there = false≢true (sym isnt ∙ begun_there b bytes (same_Some b 45 here) there)
    at isnt code behind (suc k) here there = behind code k here (sym (next_byte b k bytes) ∙ there)
