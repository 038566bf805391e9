-- The places of nodes in an order.
use Rattle.std.proofs.Common.{◌≡◌, ℕ, zero, suc, ◌+◌, ◌<◌, ◌≤◌, ◌==◌, Bool, true, false, cond, Some, List, [], ◌∷◌, length, get_or, set, slice_index, refl, sym, ap, ◌∙◌, subst, arith, inl, inr}
use Rattle.std.specs.{Prelude.{Contains}, List.{All, count_by}}
use Rattle.std.proofs.lemmas.{Bool.{eqb-true, eq-eqb, both_ways, cases_lt, lt-ltb}, List.Elements.{All-head, All-tail}, Option.{slice_get-get_or, get_or_from_slice_get}}
use Rattle.lab_order.{proofs.Writes.{set_read}, specs.Order.{position}}
use Rattle.lab_judge.proofs.{Lists.{one_place}, Numbers.{stands, position_within}}
use Rattle.lab_deps.proofs.{Places.{times, times_count}, RisingNumbers.{below, below_none, below_next}}

below_all : (n : ℕ) (ns : List ℕ) → All (λ a. a < n) ns → below n ns ≡ length ns
below_all n [] all = refl
below_all n (x ∷ xs) all =
    let kept = ap {B = ℕ} (λ b. cond b (1 + below n xs) (below n xs)) (lt-ltb x n (All-head (λ a. a < n) x xs all)) in
    omega (arith, kept, below_all n xs (All-tail (λ a. a < n) x xs all))

-- numbers below a number, each at most once, are no more than that
pub no_more : (n : ℕ) (ns : List ℕ) → All (λ a. a < n) ns → ((a : ℕ) → times a ns ≤ 1) → length ns ≤ n
no_more n ns all once = let most = few n in omega (arith, below_all n ns all, most)
  where
    few : (n : ℕ) → below n ns ≤ n
    few zero = omega (arith, below_none ns)
    few (suc n) = let rest = few n in omega (arith, rest, below_next n ns, once n)

module _ (places ns : List ℕ) (count : ℕ) (size : length places ≡ count) (all : All (λ a. a < count) ns) (once : (node : ℕ) → count_by (λ n. n == node) ns ≤ 1) where
  -- one node more has its place
  pub set_next : (i : ℕ) → i < length ns → ((k : ℕ) → k < i → slice_index places (get_or ns k 0) ≡ k) → (k : ℕ) → k < i + 1 → slice_index (set places (get_or ns i 0) i) (get_or ns k 0) ≡ k
  set_next i lt before k less = read ∙ at (get_or ns i 0 == get_or ns k 0) refl
    where
      read : slice_index (set places (get_or ns i 0) i) (get_or ns k 0) ≡ cond (get_or ns i 0 == get_or ns k 0) i (slice_index places (get_or ns k 0))
      read = let inside : get_or ns i 0 < count = all i 0 lt in set_read places (get_or ns i 0) (get_or ns k 0) i 0 (omega (arith, inside, size))

      same : get_or ns i 0 ≡ get_or ns k 0 → i ≡ k
      same e =
          let few : times (get_or ns k 0) ns ≤ 1 = subst (λ n. n ≤ 1) (sym (times_count (get_or ns k 0) ns)) (once (get_or ns k 0)) in
          one_place ns i k (get_or ns k 0) few (slice_get-get_or ns i 0 lt ∙ ap Some e) (slice_get-get_or ns k 0 (omega arith))

      at : (b : Bool) → (get_or ns i 0 == get_or ns k 0) ≡ b → cond b i (slice_index places (get_or ns k 0)) ≡ k
      at true e = same (eqb-true (get_or ns i 0) (get_or ns k 0) e)
      at false e = elim (cases_lt k i) [
        | inl earlier ↦ before k earlier
        | inr later ↦ absurd (both_ways (get_or ns i 0 == get_or ns k 0) e (eq-eqb (get_or ns i 0) (get_or ns k 0) (ap (λ p. get_or ns p 0) (omega (arith, later, less)))))
      ]

-- where each place has its node, each node has its place
pub all_placed : (places ns : List ℕ) (i : ℕ) → length ns ≤ i → ((k : ℕ) → k < i → slice_index places (get_or ns k 0) ≡ k) → (node : ℕ) → Contains ns node
    → slice_index places node ≡ position ns node
all_placed places ns i past placed node there =
    let p : ℕ = position ns node in
    let lt : position ns node < length ns = position_within ns node there in
    ap (slice_index places) (sym (get_or_from_slice_get ns (position ns node) node 0 (stands ns node there))) ∙ placed (position ns node) (omega (arith, lt, past))
