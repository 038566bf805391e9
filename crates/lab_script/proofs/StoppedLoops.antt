-- Statements of a line, and rows of a setup, read by a loop that may stop at a fault.
use Rattle.lab_script.proofs.Common.{◌≡◌, ℕ, zero, suc, ◌<◌, ◌≤◌, List, [], ◌∷◌, length, Option, Some, None, refl, sym, ◌∙◌, arith, Token, Refusal, Reading, Reads, StopsAt, commands_read, repeated_read, some_left, step_read, stops_as}

module _ {A : Type 0} (item : A → List Token → Reading (A × List Token)) (next : List Token → Option (List Token)) where
  -- where an item stops, all do
  pub item_stops : (k : ℕ) (a : A) (e : Refusal) (ts left : List Token) (total : Reading (A × List Token)) → length ts < k → repeated_read k item next a ts ≡ total
      → StopsAt e left (item a ts) → StopsAt e left total
  unfolding repeated_read
  item_stops zero a e ts left total lt so_far h = absurd (omega (arith, lt))
  item_stops (suc k) a e ts left total lt so_far h = stops_as e left (item a ts) h total (λ kind stops. sym so_far ∙ rw (repeated_read, stops) refl)

  -- an item behind which none is to come is the last
  pub item_ends : (k : ℕ) (a new : A) (ts rest : List Token) (total : Reading (A × List Token)) → length ts < k → repeated_read k item next a ts ≡ total
      → item a ts ≡ Reads (new, rest) → next rest ≡ None → total ≡ Reads (new, rest)
  unfolding repeated_read
  item_ends zero a new ts rest total lt so_far read none = absurd (omega (arith, lt))
  item_ends (suc k) a new ts rest total lt so_far read none = sym so_far ∙ rw (repeated_read, read, none) refl

  -- behind another there is another
  pub goes_on : (k : ℕ) (a new : A) (ts rest behind : List Token) (total : Reading (A × List Token)) → length ts < k → repeated_read k item next a ts ≡ total
      → item a ts ≡ Reads (new, rest) → next rest ≡ Some behind → length behind < length ts → (j : ℕ) × (length behind < j) × (repeated_read j item next new behind ≡ total)
  unfolding repeated_read
  goes_on zero a new ts rest behind total lt so_far read found less = absurd (omega (arith, lt))
  goes_on (suc k) a new ts rest behind total lt so_far read found less = (k, omega (arith, lt, less), sym (rw (repeated_read, read, found) refl) ∙ so_far)

-- something is left, or nothing
pub some_more : (ts : List Token) → 1 ≤ length ts → some_left ts ≡ Some ts
some_more [] some = absurd (omega (arith, some))
some_more (t ∷ ts) some = refl

pub no_more : (ts : List Token) → length ts ≡ 0 → some_left ts ≡ None
no_more [] none = refl
no_more (t ∷ ts) none = absurd (omega (arith, none))

-- where the statements of a line stop, its commands do
pub commands_stop : (room : ℕ) (e : Refusal) (ts left : List Token) → StopsAt e left (repeated_read (suc (length ts)) (step_read room) some_left [] ts) → StopsAt e left (commands_read room ts)
unfolding commands_read
commands_stop room e ts left stops = stops_as e left _ stops _ (λ kind n. rw n refl)
