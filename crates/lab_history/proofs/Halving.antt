-- The first entry of a key in a list that is sorted by keys.
use Rattle.std.proofs.Common.{◌≡◌, ℕ, zero, suc, ◌-◌, ◌≤◌, ◌<◌, Bool, true, false, cond, not, ◌&&◌, List, [], ◌∷◌, length, Option, Some, None, refl, sym, ap, ◌∙◌, arith}
use Rattle.std.proofs.lemmas.{Bool.{false≢true}, Map.Entries.{lookup-filter-keys}, List.Sorted.{ranks_by, sorted_far}, Option.{slice_get_past, slice_get_read}}
use Rattle.std.specs.Prelude.{slice_get, slice_index_or}
use Rattle.std.specs.Cmp.{IsTotalOrder, Equal-is, tied_back}
use Rattle.std.specs.Map.{lookup}
use Rattle.std.specs.List.Sorted.{IsPartitionedBy, IsPartitionPoint, IsSortedByKey, IsStableByKey}
use Rattle.std.specs.Ordering.{is_eq, is_lt, ordering_reverse}
use Rattle.std.specs.declared.cmp.Ordering.{Ordering, TheVariants.{Less, Equal, Greater}}
use Rattle.lab_history.specs.Keyed.{value_at}
use Rattle.lab_table.proofs.Tests.{true_and_false}

-- what is less is not equal
less_apart : (r : Ordering) → is_lt r ≡ true → is_eq r ≡ false
less_apart Less h = refl
less_apart Equal h = true_and_false _ false h refl
less_apart Greater h = refl

module _ {K : Type 0} {cmp : K → K → Ordering} (total : IsTotalOrder cmp) (key : K) where
  -- neither of two keys is below the other
  abbrev tie : K → Bool
  tie k = not (is_lt (cmp key k)) && not (is_lt (cmp k key))

  -- the key's own entries tie
  own_ties : (k : K) → is_eq (cmp k key) ≡ true → tie k ≡ true
  own_ties k own =
      let e : cmp k key ≡ Equal = (Equal-is (cmp k key)).0 own in
      let f : cmp key k ≡ Equal = tied_back total k key e in
      ap (λ r. not (is_lt r) && not (is_lt (cmp k key))) f ∙ ap (λ r. not (is_lt r)) e

  -- what stands before a key below is below
  carried : (a b : K) → is_lt (cmp b a) ≡ false → is_lt (cmp b key) ≡ true → is_lt (cmp a key) ≡ true
  carried a b rise low = at (cmp a b) refl (cmp b key) refl low
    where
      at : (r : Ordering) → cmp a b ≡ r → (s : Ordering) → cmp b key ≡ s → is_lt s ≡ true → is_lt (cmp a key) ≡ true
      at Less p Less q t = ap is_lt (total.trans a b key p q)
      at Equal p s q t = ap is_lt (total.congr a b key p ∙ q) ∙ t
      at Greater p s q t = true_and_false _ (is_lt (cmp b a)) (ap is_lt (total.antisymm b a ∙ ap ordering_reverse p)) rise
      at Less p Equal q t = true_and_false _ false t refl
      at Less p Greater q t = true_and_false _ false t refl

  -- what stands behind a key above is not the key
  passed : (a b : K) → cmp a key ≡ Greater → is_lt (cmp b a) ≡ false → is_eq (cmp b key) ≡ false
  passed a b above rise = at (cmp b key) refl
    where
      at : (r : Ordering) → cmp b key ≡ r → is_eq r ≡ false
      at Less p = refl
      at Equal p = true_and_false _ (is_lt (cmp b a)) (ap is_lt (total.congr b key a p ∙ total.antisymm key a ∙ ap ordering_reverse above)) rise
      at Greater p = refl

module _ {K V : Type 0} {cmp : K → K → Ordering} (total : IsTotalOrder cmp) (key : K) where
  -- what was found in one of two lists is found in the other, where the entries that tie with it stand in one order
  pub same_value : (xs ys : List (K × V)) → IsStableByKey (λ e. e.0) cmp xs ys → value_at cmp ys key ≡ value_at cmp xs key
  same_value xs ys stable = at (value_at cmp ys key) (value_at cmp xs key) refl refl
    where
      own : K → Bool
      own k = is_eq (cmp k key)

      with_value : V → value_at cmp ys key ≡ value_at cmp xs key
      with_value v =
          sym (lookup-filter-keys own (tie total key) true (own_ties total key) ys) ∙ ap (lookup own) (stable (key, v)) ∙ lookup-filter-keys own (tie total key) true (own_ties total key) xs

      at : (a b : Option V) → value_at cmp ys key ≡ a → value_at cmp xs key ≡ b → value_at cmp ys key ≡ value_at cmp xs key
      at None None a b = a ∙ sym b
      at (Some v) b' a b = with_value v
      at None (Some v) a b = with_value v

  -- whether an entry's key is below the key
  abbrev pub below : K × V → Bool
  below e = is_lt (cmp e.0 key)

  -- an entry's value, if it is the key's
  abbrev pub value_if : Option (K × V) → Option V
  value_if None = None
  value_if (Some e) = cond (is_eq (cmp e.0 key)) (Some e.1) None

  -- no key is below one that stands before it
  abbrev Rises : List (K × V) → Type 0
  Rises es = (i j : ℕ) (d : K × V) → i ≤ j → j < length es → is_lt (cmp (slice_index_or es j d).0 (slice_index_or es i d).0) ≡ false

  rises : (es : List (K × V)) → IsSortedByKey (λ e. e.0) cmp es → Rises es
  rises es up i j d le lt = sorted_far (λ x y. is_lt (cmp x.0 y.0)) (ranks_by total (λ e. e.0)) es up i j d le lt

  -- the entries below the key stand first
  pub parted : (es : List (K × V)) → IsSortedByKey (λ e. e.0) cmp es → IsPartitionedBy below es
  parted es up i j d le lt low = carried total key (slice_index_or es i d).0 (slice_index_or es j d).0 (rises es up i j d le lt) low

  -- the key's place, seen by the entries before and at it
  pub place_is : (es : List (K × V)) (i : ℕ) → IsSortedByKey (λ e. e.0) cmp es → i ≤ length es
      → ((d : K × V) → 0 < i → below (slice_index_or es (i - 1) d) ≡ true)
      → ((d : K × V) → i < length es → below (slice_index_or es i d) ≡ false)
      → IsPartitionPoint (λ e. below e ≡ true) (λ e. below e ≡ false) es i
  place_is es i up within front rest = (before, from)
    where
      before : (k : ℕ) (d : K × V) → 0 ≤ k → k < i → below (slice_index_or es k d) ≡ true
      before k d _ l = parted es up k (i - 1) d (omega (arith, l)) (omega (arith, l, within)) (front d (omega (arith, l)))

      from : (k : ℕ) (d : K × V) → i ≤ k → k < length es → below (slice_index_or es k d) ≡ false
      from k d le l =
          elim (below (slice_index_or es k d)) as (λ b. below (slice_index_or es k d) ≡ b → b ≡ false) [
            | true ↦ λ low. absurd (false≢true (sym (rest d (omega (arith, le, l))) ∙ parted es up i k d le l low))
            | false ↦ λ _. refl
          ] refl

  -- the key is not found behind a key above
  beyond : (a : K) → cmp a key ≡ Greater → (es : List (K × V)) → ((k : ℕ) (d : K × V) → k < length es → is_lt (cmp (slice_index_or es k d).0 a) ≡ false) → value_at cmp es key ≡ None
  beyond a above [] rise = refl
  beyond a above (e ∷ es) rise =
      ap (λ b. cond b (Some e.1) (value_at cmp es key)) (passed total key a e.0 above (rise 0 e (omega arith)))
      ∙ beyond a above es (λ k d lt. rise (suc k) d (omega arith))

  -- the key's value stands right behind the entries below it, or nowhere
  there : (es : List (K × V)) (i : ℕ) → i ≤ length es → Rises es → IsPartitionPoint (λ e. below e ≡ true) (λ e. below e ≡ false) es i → value_at cmp es key ≡ value_if (slice_get es i)
  there [] i le up point = refl
  there (e ∷ es) (suc i) le up point =
      ap (λ b. cond b (Some e.1) (value_at cmp es key)) (less_apart (cmp e.0 key) (point.0 0 e (omega arith) (omega arith)))
      ∙ there es i (omega arith) (λ j k d low high. up (suc j) (suc k) d (omega arith) (omega arith))
      ((λ k d low high. point.0 (suc k) d (omega arith) (omega arith)), (λ k d low high. point.1 (suc k) d (omega arith) (omega arith)))
  there (e ∷ es) zero le up point = at (cmp e.0 key) refl
    where
      at : (r : Ordering) → cmp e.0 key ≡ r → cond (is_eq (cmp e.0 key)) (Some e.1) (value_at cmp es key) ≡ cond (is_eq (cmp e.0 key)) (Some e.1) None
      at Less p = true_and_false _ (is_lt (cmp e.0 key)) (ap is_lt p) (point.1 0 e (omega arith) (omega arith))
      at Equal p = ap (λ r. cond (is_eq r) (Some e.1) (value_at cmp es key)) p ∙ sym (ap (λ r. cond (is_eq r) (Some e.1) None) p)
      at Greater p = ap (cond (is_eq (cmp e.0 key)) (Some e.1)) (beyond e.0 p es (λ k d lt. up 0 (suc k) d (omega arith) (omega arith)))

  -- nothing stands at the key's place
  pub found_nothing : (es : List (K × V)) (i : ℕ) → IsSortedByKey (λ e. e.0) cmp es → i ≤ length es → IsPartitionPoint (λ e. below e ≡ true) (λ e. below e ≡ false) es i → length es ≤ i
      → value_at cmp es key ≡ None
  found_nothing es i up le point past = there es i le (rises es up) point ∙ ap value_if (slice_get_past es i past)

  -- an entry stands at the key's place, and is tested for being the key's
  pub found_entry : (es : List (K × V)) (i : ℕ) (e : K × V) → IsSortedByKey (λ e. e.0) cmp es → i ≤ length es → IsPartitionPoint (λ e. below e ≡ true) (λ e. below e ≡ false) es i → i < length es
      → e ≡ slice_index_or es i e
      → value_at cmp es key ≡ cond (is_eq (cmp e.0 key)) (Some e.1) None
  found_entry es i e up le point lt is = there es i le (rises es up) point ∙ ap value_if (slice_get_read es (length es) i e refl lt is)
