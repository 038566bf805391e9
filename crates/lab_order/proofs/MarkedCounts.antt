-- How many nodes of a list are marked, and how often a node stands in one.
use Rattle.std.proofs.Common.{◌≡◌, ◌⊎◌, inl, inr, ℕ, zero, suc, ◌+◌, ◌-◌, ◌<◌, refl, sym, ap, subst, ◌∙◌, arith, Bool, true, false, cond, not, ◌&&◌, ◌||◌, ◌≤◌, List, [], ◌∷◌, length, get_or, set, replicate}
use Rattle.std.specs.{Prelude.{◌==◌, nat_lt}, List.{All, count_by, list_any}}
use Rattle.std.proofs.lemmas.{Bool.{eqb-true, eqb-false, eq-eqb, both_ways, cases_lt, lt-ltb, or_left, or_right}, List.{get_or_past, get_or-replicate, length-replicate, Sums.{sum_by-cons, sum_by-set}}}
use Rattle.lab_order.{specs.{Placing.{is_marked}, Counts.{how_often}}, proofs.Writes.{set_read}}

-- 1 for what holds
abbrev pub one_if : Bool → ℕ
one_if b = cond b 1 0

-- counting from the front
pub counted : (test : ℕ → Bool) (x : ℕ) (xs : List ℕ) → count_by test (x ∷ xs) ≡ one_if (test x) + count_by test xs
counted test x xs = sum_by-cons (λ m. one_if (test m)) x xs

-- where all of a list are marked, none is counted
pub none_counted : (marks : List Bool) (xs : List ℕ) → ((n : ℕ) → list_any (λ m. m == n) xs ≡ true → is_marked marks n ≡ true) → count_by (λ n. not (is_marked marks n)) xs ≡ 0
none_counted marks [] all = refl
none_counted marks (x ∷ xs) all =
    let here : is_marked marks x ≡ true = all x (or_left (x == x) (list_any (λ m. m == x) xs) (eq-eqb x x refl)) in
    let rest : count_by (λ n. not (is_marked marks n)) xs ≡ 0 = none_counted marks xs (λ n there. all n (or_right (x == n) (list_any (λ m. m == n) xs) there)) in
    let none : one_if (not (is_marked marks x)) ≡ 0 = ap (λ b. one_if (not b)) here in
    let e : count_by (λ n. not (is_marked marks n)) (x ∷ xs) ≡ one_if (not (is_marked marks x)) + count_by (λ n. not (is_marked marks n)) xs = counted (λ n. not (is_marked marks n)) x xs in
    omega arith

-- and where nothing is counted, all are marked
pub all_marked : (marks : List Bool) (xs : List ℕ) (n : ℕ) → count_by (λ m. not (is_marked marks m)) xs ≡ 0 → list_any (λ m. m == n) xs ≡ true → is_marked marks n ≡ true
all_marked marks [] n none there = absurd (both_ways _ refl there)
all_marked marks (x ∷ xs) n none there = at (λ rest. all_marked marks xs n rest) (x == n) refl there (is_marked marks x) refl (sym (counted (λ m. not (is_marked marks m)) x xs) ∙ none)
  where
    at : (count_by (λ m. not (is_marked marks m)) xs ≡ 0 → list_any (λ m. m == n) xs ≡ true → is_marked marks n ≡ true)
        → (a : Bool) → (x == n) ≡ a → (a || list_any (λ m. m == n) xs) ≡ true → (b : Bool) → is_marked marks x ≡ b
        → one_if (not b) + count_by (λ m. not (is_marked marks m)) xs ≡ 0 → is_marked marks n ≡ true
    at more true q h true m z = ap (is_marked marks) (sym (eqb-true x n q)) ∙ m
    at more false q h true m z = more (omega arith) h
    at more a q h false m z = absurd (omega arith)

-- what stands in a list is counted
pub stands_counted : (xs : List ℕ) (k d : ℕ) → k < length xs → 0 < how_often xs (get_or xs k d)
stands_counted [] k d lt = absurd (omega arith)
stands_counted (x ∷ xs) zero d lt =
    let one : one_if (x == x) ≡ 1 = ap one_if (eq-eqb x x refl) in
    let e : how_often (x ∷ xs) x ≡ one_if (x == x) + how_often xs x = counted (λ m. m == x) x xs in
    omega arith
stands_counted (x ∷ xs) (suc k) d lt =
    let rest : 0 < how_often xs (get_or xs k d) = stands_counted xs k d (omega arith) in
    let e : how_often (x ∷ xs) (get_or xs k d) ≡ one_if (x == get_or xs k d) + how_often xs (get_or xs k d) = counted (λ m. m == get_or xs k d) x xs in
    omega arith

-- a node that is placed is no longer waited for
pub waits_less : (placed : List Bool) (node : ℕ) (xs : List ℕ) → node < length placed → is_marked placed node ≡ false
    → count_by (λ n. not (is_marked placed n)) xs ≡ count_by (λ n. not (is_marked (set placed node true) n)) xs + how_often xs node
waits_less placed node [] lt unplaced = refl
waits_less placed node (x ∷ xs) lt unplaced =
    let rest : count_by (λ n. not (is_marked placed n)) xs ≡ count_by (λ n. not (is_marked (set placed node true) n)) xs + how_often xs node = waits_less placed node xs lt unplaced in
    let a : count_by (λ n. not (is_marked placed n)) (x ∷ xs) ≡ one_if (not (is_marked placed x)) + count_by (λ n. not (is_marked placed n)) xs = counted (λ n. not (is_marked placed n)) x xs in
    let b : count_by (λ n. not (is_marked (set placed node true) n)) (x ∷ xs)
    ≡ one_if (not (is_marked (set placed node true) x)) + count_by (λ n. not (is_marked (set placed node true) n)) xs = counted (λ n. not (is_marked (set placed node true) n)) x xs in
    let c : how_often (x ∷ xs) node ≡ one_if (x == node) + how_often xs node = counted (λ n. n == node) x xs in
    let one : one_if (not (is_marked placed x)) ≡ one_if (not (is_marked (set placed node true) x)) + one_if (x == node) = at (x == node) refl in
    omega arith
  where
    at : (b : Bool) → (x == node) ≡ b → one_if (not (is_marked placed x)) ≡ one_if (not (is_marked (set placed node true) x)) + one_if b
    at true q =
        let same : x ≡ node = eqb-true x node q in
        let old : is_marked placed x ≡ false = ap (is_marked placed) same ∙ unplaced in
        let new : is_marked (set placed node true) x ≡ true = set_read placed node x true false lt ∙ ap (λ b. cond b true (is_marked placed x)) (eq-eqb node x (sym same)) in
        let l : one_if (not (is_marked placed x)) ≡ 1 = ap (λ b. one_if (not b)) old in
        let r : one_if (not (is_marked (set placed node true) x)) ≡ 0 = ap (λ b. one_if (not b)) new in
        omega arith
    at false q =
        let new : is_marked (set placed node true) x ≡ is_marked placed x = set_read placed node x true false lt ∙ other (node == x) refl in
        let r : one_if (not (is_marked (set placed node true) x)) ≡ one_if (not (is_marked placed x)) = ap (λ b. one_if (not b)) new in
        omega arith
      where
        other : (b : Bool) → (node == x) ≡ b → cond b true (is_marked placed x) ≡ is_marked placed x
        other true p = absurd (eqb-false x node q (sym (eqb-true node x p)))
        other false p = refl

-- where none is marked, all are counted
pub all_counted : (placed : List Bool) → ((n : ℕ) → is_marked placed n ≡ false) → (xs : List ℕ) → count_by (λ n. not (is_marked placed n)) xs ≡ length xs
all_counted placed bare [] = refl
all_counted placed bare (x ∷ xs) =
    let rest : count_by (λ n. not (is_marked placed n)) xs ≡ length xs = all_counted placed bare xs in
    let one : one_if (not (is_marked placed x)) ≡ 1 = ap (λ b. one_if (not b)) (bare x) in
    let e : count_by (λ n. not (is_marked placed n)) (x ∷ xs) ≡ one_if (not (is_marked placed x)) + count_by (λ n. not (is_marked placed n)) xs = counted (λ n. not (is_marked placed n)) x xs in
    omega arith

-- marks that all are false mark none
pub none_marked : (count : ℕ) (placed : List Bool) → placed ≡ replicate count false → (n : ℕ) → is_marked placed n ≡ false
none_marked count placed is n = ap (λ ms. is_marked ms n) is ∙ at (cases_lt n count)
  where
    at : (n < count) ⊎ (count ≤ n) → is_marked (replicate count false) n ≡ false
    at (inl lt) = get_or-replicate count n false false lt
    at (inr le) = get_or_past (replicate count false) n false (subst (λ k. k ≤ n) (sym (length-replicate count false)) le)

-- placing a node leaves one fewer unplaced
pub one_fewer_unplaced : (placed : List Bool) (node : ℕ) → node < length placed → is_marked placed node ≡ false → count_by not (set placed node true) < count_by not placed
one_fewer_unplaced placed node lt unplaced =
    let s : count_by not (set placed node true) + one_if (not (is_marked placed node)) ≡ count_by not placed + 0 = sum_by-set (λ b. one_if (not b)) placed node true false lt in
    let one : one_if (not (is_marked placed node)) ≡ 1 = ap (λ b. one_if (not b)) unplaced in
    omega arith

-- a node that waited for none isn't freed again
pub not_again : (w v : ℕ) → w ≡ 0 → one_if (nat_lt 0 w && v == 0) ≡ 0
not_again w v z = ap (λ k. one_if (nat_lt 0 k && v == 0)) z

-- an unplaced node is free when it waits for none
pub becomes : (w v k : ℕ) → v ≡ w - k → one_if (w == 0) + one_if (nat_lt 0 w && v == 0) ≡ one_if (v == 0)
becomes w v k is = at (w == 0) refl
  where
    some : (w ≡ 0 → ⊥) → 0 < w
    some h = omega arith

    at : (b : Bool) → (w == 0) ≡ b → one_if (w == 0) + one_if (nat_lt 0 w && v == 0) ≡ one_if (v == 0)
    at true q =
        let none : w ≡ 0 = eqb-true w 0 q in
        let z : v ≡ 0 = omega arith in
        let l : one_if (w == 0) ≡ 1 = ap one_if q in
        let m : one_if (nat_lt 0 w && v == 0) ≡ 0 = not_again w v none in
        let r : one_if (v == 0) ≡ 1 = ap one_if (eq-eqb v 0 z) in
        omega arith
    at false q =
        let l : one_if (w == 0) ≡ 0 = ap one_if q in
        let m : one_if (nat_lt 0 w && v == 0) ≡ one_if (v == 0) = ap (λ b. one_if (b && v == 0)) (lt-ltb 0 w (some (eqb-false w 0 q))) in
        omega arith

-- what is less than all of a list isn't there
pub none_below : (node k : ℕ) → k < node → (ns : List ℕ) → All (λ n. node ≤ n) ns → how_often ns k ≡ 0
none_below node k less [] all = refl
none_below node k less (n ∷ ns) all = counted (λ m. m == k) n ns ∙ at (none_below node k less ns (λ i d lt. all (suc i) d (omega arith))) (n == k) refl
  where
    at : how_often ns k ≡ 0 → (b : Bool) → (n == k) ≡ b → one_if b + how_often ns k ≡ 0
    at rest true q =
        let same : n ≡ k = eqb-true n k q in
        let le : node ≤ n = all 0 n (omega arith) in
        absurd (omega arith)
    at rest false q = omega arith
