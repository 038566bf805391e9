-- Committed transactions that have places by rising number.
use Rattle.std.{proofs.{Common.{◌≡◌, ◌≢◌, ◌⊎◌, ◌≤◌, ◌+◌, ◌==◌, ℕ, zero, suc, Bool, true, false, cond, Some, List, [], ◌∷◌, get_or, replicate, refl, sym, ap, ◌∙◌, arith, inl, inr}, lemmas.{Bool.{cases_lt, eq-eqb, ne_eqb}, Map.Keys.{sorted_from_strictly_increasing}, Option.{none-some, same_Some, slice_get_within}}}, specs.{Prelude.{slice_get}, List.Sorted.{IsStrictlyIncreasing}}}
use Rattle.lab_history.specs.{History.{History}, Version.{IsCommitted, outcome_of}}
use Rattle.lab_deps.specs.{KindBits.{place}, Numbering.{AreNodes, committed_below, placed_behind, IsNumbering, HasPlaces}, Soundness.{has_committed}}
use Rattle.lab_deps.proofs.{Places.{times, times_count, times_here, times_more, placed}, RisingNumbers.{at_most_once, below, below_none, below_next, below_is}}

-- a table of nothing but 0
pub zeros : (k m : ℕ) → ◌≡◌ {A = ℕ} (get_or (replicate k 0) m 0) 0
zeros zero zero = refl
zeros zero (suc m) = refl
zeros (suc k) zero = refl
zeros (suc k) (suc m) = zeros k m

-- what isn't among some keeps the place that it has
behind_none : (ns : List ℕ) (n : ℕ) → times n ns ≡ 0 → (found k : ℕ) → placed_behind found k ns n ≡ found
behind_none [] n none found k = refl
behind_none (m ∷ ms) n none found k =
    let other : n ≢ m = λ same. omega (arith, none, times_here n m ms (sym same)) in
    ap (λ b. placed_behind (cond b (k + 1) found) (k + 1) ms n) (ne_eqb n m other) ∙ behind_none ms n (omega (arith, none, times_more n m ms)) found (k + 1)

-- and what is there once gets its own
behind_at : (ns : List ℕ) (p n : ℕ) → slice_get ns p ≡ Some n → times n ns ≤ 1 → (found k : ℕ) → placed_behind found k ns n ≡ k + (p + 1)
behind_at [] p n here once found k = absurd (none-some n here)
behind_at (m ∷ ms) zero n here once found k =
    let same : m ≡ n = same_Some m n here in
    let first : k + 1 ≡ k + (0 + 1) = omega arith in
    ap (λ b. placed_behind (cond b (k + 1) found) (k + 1) ms n) (eq-eqb n m (sym same)) ∙ (behind_none ms n (omega (arith, once, times_here n m ms same)) (k + 1) (k + 1) ∙ first)
behind_at (m ∷ ms) (suc p) n here once found k =
    let next : (k + 1) + (p + 1) ≡ k + (suc p + 1) = omega arith in
    behind_at ms p n here (omega (arith, once, times_more n m ms)) (cond (n == m) (k + 1) found) (k + 1) ∙ next

module _ (h : History) (ns : List ℕ) (nodes : AreNodes h ns) where
  below_committed : (n : ℕ) → below n ns ≡ committed_below h n
  below_committed zero = below_none ns
  below_committed (suc n) =
      let one : times n ns ≡ cond (has_committed (outcome_of h n)) 1 0 = times_count n ns ∙ nodes.each_once n in
      below_next n ns ∙ (ap (λ k. k + times n ns) (below_committed n) ∙ ap (λ k. committed_below h n + k) one)

  -- a committed transaction stands somewhere
  stands_at : (n : ℕ) → has_committed (outcome_of h n) ≡ true → (p : ℕ) × (slice_get ns p ≡ Some n)
  stands_at n committed =
      let one : times n ns ≡ 1 = times_count n ns ∙ (nodes.each_once n ∙ ap (λ b. cond b 1 0) committed) in
      let found = placed ns n (omega (arith, one)) in (found.0, found.2)

  -- so it has a place
  pub has_place : (ps : List ℕ) → IsNumbering ns ps → (n : ℕ) → IsCommitted h n → place ps n ≢ 0
  has_place ps numbering n committed none = let found = stands_at n (ap has_committed committed) in omega (arith, none, numbering.at found.0 n found.1)

module _ (ns ps : List ℕ) (up : IsStrictlyIncreasing ns) (exact : (n : ℕ) → place ps n ≡ placed_behind 0 0 ns n) where
  at : (k n : ℕ) → slice_get ns k ≡ Some n → place ps n ≡ k + 1
  at k n here = omega (arith, exact n, behind_at ns k n here (at_most_once ns up n) 0 0)

  none_placed : (n : ℕ) → times n ns ≡ 0 → place ps n ≡ 0
  none_placed n none = exact n ∙ behind_none ns n none 0 0

  either : (n : ℕ) → ((p : ℕ) × (slice_get ns p ≡ Some n)) ⊎ (place ps n ≡ 0)
  either n =
      elim (cases_lt 0 (times n ns)) [
        | inl some ↦ let found = placed ns n (omega (arith, some)) in inl (found.0, found.2)
        | inr none ↦ inr (none_placed n (omega (arith, none)))
      ]

  apart : (n m : ℕ) → place ps n ≡ place ps m → place ps n ≢ 0 → n ≡ m
  apart n m same some =
      elim (either n) [
        | inl a ↦ elim (either m) [
          | inl b ↦
              let one : a.0 ≡ b.0 = omega (arith, same, at a.0 n a.1, at b.0 m b.1) in
              same_Some n m (sym a.1 ∙ (ap (slice_get ns) one ∙ b.1))
          | inr none ↦ absurd (some (same ∙ none))
        ]
        | inr none ↦ absurd (some none)
      ]

  pub numbering : IsNumbering ns ps
  numbering = record {
    few = λ n. elim (either n) [ inl a ↦ omega (arith, at a.0 n a.1, slice_get_within ns a.0 n a.1) | inr none ↦ omega (arith, none) ];
    apart = apart;
    at = at;
  }

  pub places_in_order : (h : History) → AreNodes h ns → HasPlaces h ps
  places_in_order h nodes n = by_end (has_committed (outcome_of h n)) refl
    where
      by_end : (b : Bool) → has_committed (outcome_of h n) ≡ b → place ps n ≡ cond b (committed_below h n + 1) 0
      by_end true committed =
          let found = stands_at h ns nodes n committed in
          let rank = below_is ns (sorted_from_strictly_increasing ns up) found.0 n found.1 in
          at found.0 n found.1 ∙ ap (λ k. k + 1) (sym rank ∙ below_committed h ns nodes n)
      by_end false committed = none_placed n (times_count n ns ∙ (nodes.each_once n ∙ ap (λ b. cond b 1 0) committed))
