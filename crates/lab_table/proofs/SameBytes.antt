-- Bytes that are compared all at once: whether they are the same, and where they differ first.
use Rattle.std.proofs.{Common.{◌≡◌, ℕ, zero, suc, ◌+◌, ◌-◌, ◌*◌, ◌<◌, Bool, true, false, not, cond, ◌&&◌, ◌==◌, List, [], ◌∷◌, length, map, get_or, refl, sym, ap, subst, ◌∙◌, arith, rules}, lemmas.{Bool.{false≢true}, Simd.{length-zip2, trailing_mask_l}}}
use Rattle.std.specs.{List.{prefix_len}, Simd.Lanes.{zip2, mask_l}, Ordering.{nat_cmp, ordering_then}, declared.cmp.Ordering.TheVariants.{Equal}, Cmp.{Equal-is, unsigned_ties, Lexicographic.{texts_ties}}}
use lib.Count.{count_trailing_zeros}
use Rattle.lab_table.{specs.{TableName.{table_name_eq, table_name_cmp}, Differences.{differ, differences}}, proofs.RowOrder.{apart_stays}}

-- a number above 0 isn't 0
above_zero : (n m : ℕ) → n ≡ suc m → (n == 0) ≡ false
above_zero n m e = search (rules, e)

doubled : (n : ℕ) → (2 * n == 0) ≡ (n == 0)
doubled zero = refl
doubled (suc n) = above_zero (2 * suc n) (2 * n + 1) (omega arith) ∙ sym (above_zero (suc n) n refl)

-- a bit that isn't set leaves the others to decide, and one that is decides
shifted : (same : Bool) (rest : ℕ) (others : Bool) → (rest == 0) ≡ others → (cond (not same) 1 0 + 2 * rest == 0) ≡ (same && others)
shifted true rest others e = let none : 0 + 2 * rest ≡ 2 * rest = omega arith in ap (λ n. n == 0) none ∙ doubled rest ∙ e
shifted false rest others e = above_zero (1 + 2 * rest) (2 * rest) (omega arith)

-- no bit is set exactly where all bytes are the same
pub none_differ : (xs ys : List ℕ) → length xs ≡ length ys → (differences xs ys == 0) ≡ table_name_eq xs ys
none_differ [] [] e = refl
none_differ [] (y ∷ ys) e = absurd (omega (arith, e))
none_differ (x ∷ xs) [] e = absurd (omega (arith, e))
none_differ (x ∷ xs) (y ∷ ys) e = shifted (x == y) (differences xs ys) (table_name_eq xs ys) (none_differ xs ys (omega (arith, e)))

-- ---- the first difference

-- how many bytes stand before the first that differs
abbrev before : List ℕ → List ℕ → ℕ
before xs ys = prefix_len (λ b. not b) (zip2 differ xs ys)

-- the first byte in which two texts differ decides their order
abbrev pub Decided : List ℕ → List ℕ → ℕ → Type 0
Decided xs ys place = (place < length xs) × (table_name_cmp xs ys ≡ nat_cmp (get_or xs place 0) (get_or ys place 0))

behind_same : (x y : ℕ) (xs ys : List ℕ) (place : ℕ) → (x == y) ≡ true → Decided xs ys place → Decided (x ∷ xs) (y ∷ ys) (1 + place)
behind_same x y xs ys place same rest =
    let tied : nat_cmp x y ≡ Equal = (Equal-is (nat_cmp x y)).0 (sym (unsigned_ties x y) ∙ same) in
    let next : 1 + place ≡ suc place = omega arith in (
      omega (arith, rest.0),
      ap (λ r. ordering_then r (table_name_cmp xs ys)) tied ∙ rest.1 ∙ ap (λ n. nat_cmp (get_or (x ∷ xs) n 0) (get_or (y ∷ ys) n 0)) (sym next),
    )

first_decides : (xs ys : List ℕ) → length xs ≡ length ys → table_name_eq xs ys ≡ false → Decided xs ys (before xs ys)
first_decides [] [] e apart = absurd (false≢true (sym apart))
first_decides [] (y ∷ ys) e apart = absurd (omega (arith, e))
first_decides (x ∷ xs) [] e apart = absurd (omega (arith, e))
first_decides (x ∷ xs) (y ∷ ys) e apart = by (x == y) refl (first_decides xs ys (omega (arith, e)))
  where
    by : (b : Bool) → (x == y) ≡ b → (table_name_eq xs ys ≡ false → Decided xs ys (before xs ys)) → Decided (x ∷ xs) (y ∷ ys) (cond (not (not b)) (1 + before xs ys) 0)
    by true same rest = behind_same x y xs ys (before xs ys) same (rest (sym (ap (λ t. t && table_name_eq xs ys) same) ∙ apart))
    by false other rest = (omega arith, apart_stays (nat_cmp x y) (table_name_cmp xs ys) (sym (unsigned_ties x y) ∙ other))

themselves : (bits : List Bool) → map (λ b. b) bits ≡ bits
themselves [] = refl
themselves (b ∷ bits) = ap (λ rest. b ∷ rest) (themselves bits)

-- texts without a difference are in no order
pub none_ties : (xs ys : List ℕ) → length xs ≡ length ys → differences xs ys ≡ 0 → table_name_cmp xs ys ≡ Equal
none_ties xs ys e none = (Equal-is (table_name_cmp xs ys)).0 (sym (texts_ties xs ys) ∙ sym (none_differ xs ys e) ∙ ap (λ n. n == 0) none)

-- the lowest bit is that of the first difference
lowest_decides : (xs ys : List ℕ) → length xs ≡ 16 → length ys ≡ 16 → (differences xs ys ≡ 0 → ⊥) → Decided xs ys (count_trailing_zeros 64 (differences xs ys))
lowest_decides xs ys long_x long_y some =
    let same : length xs ≡ length ys = long_x ∙ sym long_y in
    let bits = zip2 differ xs ys in
    let positive : 0 < differences xs ys = omega (arith, some) in
    let lowest : count_trailing_zeros 64 (mask_l bits) ≡ before xs ys =
    subst (λ ms. 0 < mask_l ms → count_trailing_zeros 64 (mask_l ms) ≡ before xs ys) (themselves bits)
    (trailing_mask_l (λ b. b) 64 bits (omega (arith, length-zip2 differ xs ys same, long_x))) positive in
    let apart : (differences xs ys == 0) ≡ false = above_zero (differences xs ys) (differences xs ys - 1) (omega (arith, positive)) in
    subst (Decided xs ys) (sym lowest) (first_decides xs ys same (sym (none_differ xs ys same) ∙ apart))

-- so what stands at its place is the order
pub decided_at : (xs ys : List ℕ) (bits : ℕ) → length xs ≡ 16 → length ys ≡ 16 → bits ≡ differences xs ys → (bits ≡ 0 → ⊥) → Decided xs ys (count_trailing_zeros 64 bits)
decided_at xs ys bits long_x long_y is some = subst (λ n. Decided xs ys (count_trailing_zeros 64 n)) (sym is) (lowest_decides xs ys long_x long_y (λ none. some (is ∙ none)))
