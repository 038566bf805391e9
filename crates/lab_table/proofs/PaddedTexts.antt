-- Texts with zeros behind them.
use Rattle.std.proofs.{Common.{◌≡◌, ℕ, zero, suc, ◌+◌, ◌-◌, ◌≤◌, Bool, true, false, cond, ◌==◌, T, List, [], ◌∷◌, ◌++◌, length, take, drop, map, refl, sym, ap, ◌∙◌, arith}, lemmas.{Bool.{lt-ltb}, List.{map-append, length-map, drop-replicate}}}
use Rattle.std.specs.{Prelude.{replicate}, Ordering.{nat_cmp, ordering_then, ordering_reverse}, declared.cmp.Ordering.TheVariants.{Less, Equal, Greater}, Cmp.{tied_itself, nat_cmp_total, Lexicographic.{slice_cmp, nat_list_cmp_total}}, List.{list_all, prefix_len}, Char.{to_ascii_lowercase}}
use Rattle.lab_table.{specs.{Padded.{padded, unpadded, is_nonzero}, TableName.{in_lower_case}}, proofs.Tests.{both}}

next : (n : ℕ) → 1 + n ≡ suc n
next n = omega arith

pub is_true : (t : Bool) → T t → t ≡ true
is_true true h = refl
is_true false h = absurd h

-- what stands before the first zero of zeros
no_text : (n : ℕ) → unpadded (replicate n 0) ≡ []
no_text zero = refl
no_text (suc n) = refl

-- one byte more that isn't zero
unpadded_more : (b : ℕ) (bs : List ℕ) → is_nonzero b ≡ true → unpadded (b ∷ bs) ≡ b ∷ unpadded bs
unpadded_more b bs h = ap (λ t. take (cond t (1 + prefix_len is_nonzero bs) 0) (b ∷ bs)) h ∙ ap (λ n. take n (b ∷ bs)) (next (prefix_len is_nonzero bs))

-- the text stands before the zeros
pub unpadded_zeros : (text : List ℕ) (n : ℕ) → T (list_all is_nonzero text) → unpadded (text ++ replicate n 0) ≡ text
unpadded_zeros [] n h = no_text n
unpadded_zeros (b ∷ bs) n h =
    let parts = both (is_nonzero b) (list_all is_nonzero bs) h in
    unpadded_more b (bs ++ replicate n 0) (is_true _ parts.0) ∙ ap (λ t. b ∷ t) (unpadded_zeros bs n parts.1)

pub unpadded_padded : (text : List ℕ) → T (list_all is_nonzero text) → unpadded (padded text) ≡ text
unpadded_padded text h = unpadded_zeros text (16 - length text) h

-- zeros have no case
lower_zeros : (n : ℕ) → map to_ascii_lowercase (replicate n 0) ≡ replicate n 0
lower_zeros zero = refl
lower_zeros (suc n) = ap (λ t. 0 ∷ t) (lower_zeros n)

-- a text that stands over zeros, in lower case
pub lower_padded : (text copy : List ℕ) → copy ≡ text → map to_ascii_lowercase (copy ++ drop (length text) (replicate 16 0)) ≡ padded (in_lower_case text)
lower_padded text copy e =
    ap (λ t. map to_ascii_lowercase (t ++ drop (length text) (replicate 16 0))) e
    ∙ map-append to_ascii_lowercase text (drop (length text) (replicate 16 0))
    ∙ ap (λ t. in_lower_case text ++ map to_ascii_lowercase t) (drop-replicate (length text) 16 0)
    ∙ ap (λ t. in_lower_case text ++ t) (lower_zeros (16 - length text))
    ∙ ap (λ n. in_lower_case text ++ replicate (16 - n) 0) (sym (length-map text to_ascii_lowercase))

-- zero comes before any other number
zero_first : (b : ℕ) → nat_cmp 0 (suc b) ≡ Less
zero_first b = ap (λ t. cond t Less (cond (0 == suc b) Equal Greater)) (lt-ltb 0 (suc b) (omega arith))

zero_last : (b : ℕ) → nat_cmp (suc b) 0 ≡ Greater
zero_last b = nat_cmp_total.antisymm (suc b) 0 ∙ ap ordering_reverse (zero_first b)

-- a shorter text has a zero where a longer one has more
ends_first : (b : ℕ) (bs : List ℕ) (m k : ℕ) → T (is_nonzero b) → m ≡ 1 + length bs + k → slice_cmp nat_cmp (replicate m 0) (b ∷ bs ++ replicate k 0) ≡ Less
ends_first zero bs m k h e = absurd h
ends_first (suc b) bs zero k h e = absurd (omega (arith, e))
ends_first (suc b) bs (suc m) k h e = ap (λ r. ordering_then r (slice_cmp nat_cmp (replicate m 0) (bs ++ replicate k 0))) (zero_first b)

ends_last : (b : ℕ) (bs : List ℕ) (m k : ℕ) → T (is_nonzero b) → 1 + length bs + m ≡ k → slice_cmp nat_cmp (b ∷ bs ++ replicate m 0) (replicate k 0) ≡ Greater
ends_last zero bs m k h e = absurd h
ends_last (suc b) bs m zero h e = absurd (omega (arith, e))
ends_last (suc b) bs m (suc k) h e = ap (λ r. ordering_then r (slice_cmp nat_cmp (bs ++ replicate m 0) (replicate k 0))) (zero_last b)

-- zeros that make two texts as long don't change which comes first
pub zeros_compared : (x y : List ℕ) (m k : ℕ) → T (list_all is_nonzero x) → T (list_all is_nonzero y) → length x + m ≡ length y + k → slice_cmp nat_cmp (x ++ replicate m 0) (y ++ replicate k 0) ≡ slice_cmp nat_cmp x y
zeros_compared [] [] m k h g e =
    let same : m ≡ k = omega (arith, e) in
    ap (λ n. slice_cmp nat_cmp (replicate m 0) (replicate n 0)) (sym same) ∙ tied_itself nat_list_cmp_total (replicate m 0)
zeros_compared [] (y ∷ ys) m k h g e = ends_first y ys m k (both (is_nonzero y) (list_all is_nonzero ys) g).0 (omega (arith, e))
zeros_compared (x ∷ xs) [] m k h g e = ends_last x xs m k (both (is_nonzero x) (list_all is_nonzero xs) h).0 (omega (arith, e))
zeros_compared (x ∷ xs) (y ∷ ys) m k h g e =
    ap (ordering_then (nat_cmp x y)) (zeros_compared xs ys m k (both (is_nonzero x) (list_all is_nonzero xs) h).1 (both (is_nonzero y) (list_all is_nonzero ys) g).1 (omega (arith, e)))

-- padded texts are in the order of the texts
pub padded_compared : (x y : List ℕ) → length x ≤ 16 → length y ≤ 16 → T (list_all is_nonzero x) → T (list_all is_nonzero y) → slice_cmp nat_cmp (padded x) (padded y) ≡ slice_cmp nat_cmp x y
padded_compared x y short_x short_y text_x text_y = zeros_compared x y (16 - length x) (16 - length y) text_x text_y (omega (arith, short_x, short_y))
