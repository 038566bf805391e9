-- Members with a connective between two of them, read by a loop that may stop at a fault.
use Rattle.lab_statement.proofs.{Common.{◌≡◌, ℕ, zero, suc, ◌≤◌, ◌<◌, List, length, Some, None, refl, sym, ap, ◌∙◌, arith, Token, Refusal, after, Reading, Reads, StopsAt, more_read, joined_read}, Readings.{stops_as}}

abbrev pub Reader : Type 0 → Type 0
Reader X = List Token → Reading (X × List Token)

-- with this joined and these tokens left, reading on comes to the whole
pub data ReadsOn {A X : Type 0} (member : Reader X) (connective : Token) (join : A → X → A) (a : A) (ts : List Token) (whole : Reading (A × List Token)) : Type 0 where
  within : (most : ℕ) → length ts ≤ most → more_read most member connective join a ts ≡ whole → ReadsOn member connective join a ts whole

module _ {A X : Type 0} {member : Reader X} {connective : Token} {join : A → X → A} where
  -- one member more
  pub goes_on : {a b : A} {x : X} {ts rest behind : List Token} {whole : Reading (A × List Token)} → ReadsOn member connective join a ts whole → after connective ts ≡ Some rest → length rest < length ts
      → member rest ≡ Reads (x, behind) → length behind ≤ length rest → join a x ≡ b → ReadsOn member connective join b behind whole
  unfolding more_read
  goes_on (within zero le so_far) took lt read shorter made = absurd (omega arith)
  goes_on {behind = behind} (within (suc k) le so_far) took lt read shorter made =
      within k (omega arith) (ap (λ (c : A). more_read k member connective join c behind) (sym made) ∙ sym (rw (more_read, took, read) refl) ∙ so_far)

  -- a connective with no member behind it
  pub next_stops : {a : A} {ts rest : List Token} {whole : Reading (A × List Token)} (e : Refusal) (left : List Token) → ReadsOn member connective join a ts whole → after connective ts ≡ Some rest → length rest < length ts
      → StopsAt e left (member rest) → StopsAt e left whole
  unfolding more_read
  next_stops e left (within zero le so_far) took lt stops = absurd (omega arith)
  next_stops {rest = rest} {whole = whole} e left (within (suc k) le so_far) took lt stops = stops_as e left (member rest) stops whole (λ kind n. sym so_far ∙ rw (more_read, took, n) refl)

  -- no connective is left
  pub ends : {a : A} {ts : List Token} {whole : Reading (A × List Token)} → ReadsOn member connective join a ts whole → after connective ts ≡ None → whole ≡ Reads (a, ts)
  unfolding more_read
  ends (within zero le so_far) none = sym so_far
  ends (within (suc k) le so_far) none = sym so_far ∙ rw none refl

module _ {A X : Type 0} (first : X → A) (member : Reader X) (connective : Token) (join : A → X → A) where
  -- the first member
  pub starts : {ts rest : List Token} {x : X} → member ts ≡ Reads (x, rest) → ReadsOn member connective join (first x) rest (joined_read first member connective join ts)
  unfolding joined_read
  starts {rest = rest} h = within (length rest) (omega arith) (rw h refl)
