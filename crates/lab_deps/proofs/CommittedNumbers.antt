-- The numbers of the committed transactions, each once.
use Rattle.std.{proofs.{Common.{◌≡◌, ℕ, ◌+◌, ◌≤◌, ◌==◌, Bool, true, false, cond, Some, List, [], ◌∷◌, length, map, refl, sym, ap, ◌∙◌, subst, arith, inl, inr}, lemmas.{Bool.{eqb-true, cases_Bool, cases_lt, false≢true}, List.{length-map, Sums.{length-filter, count_by-le-length}, Elements.{All-map, All-contains, filter_passes}, Sorted.{length_permutation}}}}, specs.{Prelude.{Contains, count_by, filter, option_map}, List.{All, dedup, dedup_from, Sorted.{IsStrictlyIncreasing, IsPermutation}}}}
use Rattle.lab_history.specs.{History.{History}, Version.{outcome_of, find_txn}, declared.transaction.Txn.{Txn}}
use Rattle.lab_deps.{specs.Soundness.{has_committed}, proofs.{Places.{times, times_count, times_here, times_more}, RisingNumbers.{contained, contains_it, at_most_once}}}

module _ (test : ℕ → Bool) where
  -- the numbers of the transactions whose number passes a test
  abbrev pub numbers_that : List Txn → List ℕ
  numbers_that ts = map (λ t. t.no) (filter (λ t. test t.no) ts)

  -- there are no more of them than transactions
  pub few_numbers : (ts : List Txn) → length (numbers_that ts) ≤ length ts
  few_numbers ts = omega (arith, length-map (filter (λ t. test t.no) ts) (λ t. t.no), length-filter (λ t. test t.no) ts, count_by-le-length (λ t. test t.no) ts)

  -- each passes it
  passes : (ts : List Txn) → All (λ n. test n ≡ true) (numbers_that ts)
  passes ts = All-map (λ n. test n ≡ true) (λ t. t.no) (filter (λ t. test t.no) ts) (filter_passes (λ t. test t.no) ts)

  -- a transaction that is found is among them
  found : (ts : List Txn) (n : ℕ) → has_committed (option_map (λ t. t.outcome) (find_txn ts n)) ≡ true → test n ≡ true → 1 ≤ times n (numbers_that ts)
  found [] n h passed = absurd (false≢true h)
  found (t ∷ ts) n h passed =
      elim (t.no == n) as (λ b. (t.no == n) ≡ b → has_committed (option_map (λ t. t.outcome) (cond b (Some t) (find_txn ts n))) ≡ true → 1 ≤ times n (numbers_that (t ∷ ts))) [
        | true ↦ λ e _.
            let same = eqb-true t.no n e in
            let kept = ap (λ b. times n (map (λ t. t.no) (cond b (t ∷ filter (λ t. test t.no) ts) (filter (λ t. test t.no) ts)))) (ap test same ∙ passed) in
            omega (arith, kept, times_here n t.no (numbers_that ts) same)
        | false ↦ λ _ c.
            let rest = found ts n c passed in
            elim (test t.no) as (λ b. 1 ≤ times n (map (λ t. t.no) (cond b (t ∷ filter (λ t. test t.no) ts) (filter (λ t. test t.no) ts)))) [
              | true ↦ omega (arith, rest, times_more n t.no (numbers_that ts))
              | false ↦ rest
            ]
      ] refl h

-- where doubles are taken out, there is no more
fewer_from : {A : Type 0} (same : A → A → Bool) (k : A) (xs : List A) → length (dedup_from same k xs) ≤ length xs + 1
fewer_from same k [] = omega arith
fewer_from same k (x ∷ xs) = elim (cases_Bool (same x k)) [
  | inl dropped ↦ rw dropped (omega (arith, fewer_from same k xs))
  | inr kept ↦ rw kept (omega (arith, fewer_from same x xs))
]

no_more_left : {A : Type 0} (same : A → A → Bool) (xs ys : List A) → ys ≡ dedup same xs → length ys ≤ length xs
no_more_left same [] ys is = omega (arith, ap length is)
no_more_left same (x ∷ xs) ys is = omega (arith, ap length is, fewer_from same x xs)

-- nor where they were put in order before
pub few_left : (kept xs ys : List ℕ) → IsPermutation kept xs → ys ≡ dedup (λ x y. x == y) xs → length ys ≤ length kept
few_left kept xs ys moved is = omega (arith, no_more_left (λ x y. x == y) xs ys is, length_permutation kept xs moved)

-- whether a number is a committed transaction's
abbrev pub is_committed : History → ℕ → Bool
is_committed h n = has_committed (outcome_of h n)

-- rising numbers that are those of the committed transactions hold each once
pub each_once : (h : History) (ns kept : List ℕ) → IsStrictlyIncreasing ns → kept ≡ numbers_that (is_committed h) h.txns
    → ((n : ℕ) → Contains ns n → Contains kept n) → ((n : ℕ) → Contains kept n → Contains ns n) → (n : ℕ) → count_by (λ m. m == n) ns ≡ cond (is_committed h n) 1 0
each_once h ns kept up is from into n = sym (times_count n ns) ∙ at (is_committed h n) refl
  where
    at : (b : Bool) → is_committed h n ≡ b → times n ns ≡ cond b 1 0
    at true c =
        let some : 1 ≤ times n ns = contained ns n (into n (contains_it kept n (subst (λ l. 1 ≤ times n l) (sym is) (found (is_committed h) h.txns n c c)))) in
        omega (arith, some, at_most_once ns up n)
    at false c = elim (cases_lt 0 (times n ns)) [
      | inl some ↦
          absurd (false≢true (sym c ∙ All-contains (λ n. is_committed h n ≡ true) kept n (subst (All (λ n. is_committed h n ≡ true)) (sym is) (passes (is_committed h) h.txns)) (from n (contains_it ns n (omega (arith, some))))))
      | inr none ↦ omega arith
    ]
