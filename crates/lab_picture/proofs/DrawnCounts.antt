-- How many of a transaction's operations are drawn, where few are.
use Rattle.std.{proofs.{Common.{◌≡◌, ◌≤◌, ◌<◌, ℕ, zero, suc, ◌+◌, ◌*◌, ◌==◌, Bool, true, false, ◌||◌, cond, List, [], ◌∷◌, length, refl, sym, arith, nat_le, leb-true}, lemmas.Bool.{false≢true, eqb-true, eq-eqb, and_parts}}, specs.List.{list_any}}
use Rattle.lab_picture.specs.{Few.{count_to, is_kept}, Named.{is_at, touches}}
use Rattle.lab_drawing.specs.declared.drawing.{Arrow.{Arrow}, Spot.{Spot}}

all_step : (b : Bool) (a k : ℕ) → a ≤ k → a + cond b 1 0 ≤ suc k
all_step true a k le = omega arith
all_step false a k le = omega arith

-- no more than there are
pub count_all : (p : ℕ → Bool) (k : ℕ) → count_to p k ≤ k
count_all p zero = omega arith
count_all p (suc k) = all_step (p (suc k)) (count_to p k) k (count_all p k)

or_step : (p q : Bool) (a b c : ℕ) → a ≤ b + c → a + cond (p || q) 1 0 ≤ (b + cond p 1 0) + (c + cond q 1 0)
or_step true true a b c le = omega arith
or_step true false a b c le = omega arith
or_step false true a b c le = omega arith
or_step false false a b c le = omega arith

-- those with one of two properties are no more than those with either
count_or : (p q : ℕ → Bool) (k : ℕ) → count_to (λ i. p i || q i) k ≤ count_to p k + count_to q k
count_or p q zero = omega arith
count_or p q (suc k) = or_step (p (suc k)) (q (suc k)) (count_to (λ i. p i || q i) k) (count_to p k) (count_to q k) (count_or p q k)

first_step : (m k a : ℕ) (b : Bool) → nat_le (suc k) m ≡ b → a ≤ k → a ≤ m → a + cond b 1 0 ≤ m
first_step m k a true is few le = let within : suc k ≤ m = leb-true (suc k) m is in omega arith
first_step m k a false is few le = omega arith

-- the first so many are no more
count_first : (m k : ℕ) → count_to (λ i. nat_le i m) k ≤ m
count_first m zero = omega arith
count_first m (suc k) = first_step m k (count_to (λ i. nat_le i m) k) (nat_le (suc k) m) refl (count_all (λ i. nat_le i m) k) (count_first m k)

one_step : (m k a : ℕ) (b : Bool) → (m == suc k) ≡ b → (a ≤ 1) × (k < m → a ≡ 0) → (a + cond b 1 0 ≤ 1) × (suc k < m → a + cond b 1 0 ≡ 0)
one_step m k a true is (le, none) = let same : m ≡ suc k = eqb-true m (suc k) is in (omega (arith, none (omega arith)), λ less. omega arith)
one_step m k a false is (le, none) = (omega arith, λ less. omega (arith, none (omega arith)))

only_one : (m k : ℕ) → (count_to (λ i. m == i) k ≤ 1) × (k < m → count_to (λ i. m == i) k ≡ 0)
only_one m zero = (omega arith, λ less. refl)
only_one m (suc k) = one_step m k (count_to (λ i. m == i) k) (m == suc k) refl (only_one m k)

under_step : (b c : Bool) (a d : ℕ) → (b ≡ true → c ≡ true) → a ≤ d → a + cond b 1 0 ≤ d + cond c 1 0
under_step true true a d so le = omega arith
under_step true false a d so le = absurd (false≢true (so refl))
under_step false true a d so le = omega arith
under_step false false a d so le = omega arith

-- where one property gives another, those with it are no more
count_under : (p q : ℕ → Bool) → ((i : ℕ) → p i ≡ true → q i ≡ true) → (k : ℕ) → count_to p k ≤ count_to q k
count_under p q so zero = omega arith
count_under p q so (suc k) = under_step (p (suc k)) (q (suc k)) (count_to p k) (count_to q k) (so (suc k)) (count_under p q so k)

-- a number is one
count_same : (m k : ℕ) → count_to (λ i. i == m) k ≤ 1
count_same m k =
    let under : count_to (λ i. i == m) k ≤ count_to (λ i. m == i) k = count_under (λ i. i == m) (λ i. m == i) (λ i is. eq-eqb m i (sym (eqb-true i m is))) k in
    omega (arith, (only_one m k).0)

-- an end is at one operation of a transaction
count_spot : (n k : ℕ) (spot : Spot) → count_to (λ i. is_at n i spot) k ≤ 1
count_spot n k spot =
    let under : count_to (λ i. is_at n i spot) k ≤ count_to (λ i. spot.op == i) k = count_under (λ i. is_at n i spot) (λ i. spot.op == i) (λ i is. (and_parts (spot.txn == n) (spot.op == i) is).1) k in
    omega (arith, (only_one spot.op k).0)

count_none : (k : ℕ) → count_to (λ i. false) k ≡ 0
count_none zero = refl
count_none (suc k) = omega (arith, count_none k)

-- arrows lead from and to no more than two each
count_ends : (n k : ℕ) (arrows : List Arrow) → count_to (λ i. list_any (touches n i) arrows) k ≤ 2 * length arrows
count_ends n k [] = omega (arith, count_none k)
count_ends n k (a ∷ arrows) =
    let each : count_to (λ i. touches n i a) k ≤ count_to (λ i. is_at n i a.from) k + count_to (λ i. is_at n i a.to) k = count_or (λ i. is_at n i a.from) (λ i. is_at n i a.to) k in
    let both : count_to (λ i. list_any (touches n i) (a ∷ arrows)) k ≤ count_to (λ i. touches n i a) k + count_to (λ i. list_any (touches n i) arrows) k =
    count_or (λ i. touches n i a) (λ i. list_any (touches n i) arrows) k in
    omega (arith, each, both, count_spot n k a.from, count_spot n k a.to, count_ends n k arrows)

-- where few are drawn, they are the first eight, the marked one and two for each arrow
pub count_few : (arrows : List Arrow) (n m k : ℕ) → count_to (is_kept true arrows n m) k ≤ 9 + 2 * length arrows
count_few arrows n m k =
    let ends : ℕ → Bool = λ i. list_any (touches n i) arrows in
    let asked : count_to (λ i. (i == m) || ends i) k ≤ count_to (λ i. i == m) k + count_to ends k = count_or (λ i. i == m) ends k in
    let all : count_to (is_kept true arrows n m) k ≤ count_to (λ i. nat_le i 8) k + count_to (λ i. (i == m) || ends i) k = count_or (λ i. nat_le i 8) (λ i. (i == m) || ends i) k in
    omega (arith, asked, all, count_first 8 k, count_same m k, count_ends n k arrows)
