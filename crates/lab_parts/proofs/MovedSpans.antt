-- Places of transactions, and those places behind others: who commits there, and which places are taken.
use Rattle.std.{proofs.{Common.{◌≡◌, ℕ, zero, suc, ◌+◌, ◌<◌, ◌≤◌, ◌==◌, max, Bool, true, false, cond, Some, None, List, [], ◌∷◌, ◌++◌, map, refl, ap, ◌∙◌, subst, arith, ◌⊎◌, inl, inr}, lemmas.{Bool.{ne_eqb}, Option.{same_Some, none-some}}}, specs.{Prelude.{Contains, option_map}, Option.{option_or}}}
use Rattle.lab_deps.proofs.Places.{times, times_here, times_more}
use Rattle.lab_judge.specs.Runs.{Span, committing, all_places}
use Rattle.lab_parts.{specs.{Whole.{moved}, WholeRuns.{Placed, above_commits, moved_span}}, proofs.JoinedTxns.{same_behind}}

-- ---- lists that contain something
pub contains_first : {X : Type 0} (x : X) (xs : List X) → Contains (x ∷ xs) x
contains_first x xs = (0, omega arith, refl)

pub contains_later : {X : Type 0} (x : X) (xs : List X) (y : X) → Contains xs y → Contains (x ∷ xs) y
contains_later x xs y (k, less, is) = (suc k, omega (arith, less), is)

pub contains_cases : {X : Type 0} (x : X) (xs : List X) (y : X) → Contains (x ∷ xs) y → (x ≡ y) ⊎ Contains xs y
contains_cases x xs y (zero, less, is) = inl is
contains_cases x xs y (suc k, less, is) = inr (k, omega (arith, less), is)

-- what a mapped list contains comes from the list
pub contains_map : {X Y : Type 0} (f : X → Y) (xs : List X) (y : Y) → Contains (map f xs) y → (x : X) × Contains xs x × (f x ≡ y)
contains_map f [] y (k, less, is) = absurd (omega (arith, less))
contains_map {X = X} f (x ∷ xs) y there = at (contains_map f xs y) (contains_cases (f x) (map f xs) y there)
  where
    at : (Contains (map f xs) y → (z : X) × Contains xs z × (f z ≡ y)) → (f x ≡ y) ⊎ Contains (map f xs) y → (z : X) × Contains (x ∷ xs) z × (f z ≡ y)
    at later (inl is) = (x, contains_first x xs, is)
    at later (inr there) = let z = later there in (z.0, contains_later x xs z.0 z.1, z.2)

-- and what a list contains is contained there
pub map_contains : {X Y : Type 0} (f : X → Y) (xs : List X) (x : X) → Contains xs x → Contains (map f xs) (f x)
map_contains f [] x (k, less, is) = absurd (omega (arith, less))
map_contains f (y ∷ xs) x there = elim (contains_cases y xs x there) [
  | inl is ↦ subst (λ z. Contains (map f (y ∷ xs)) (f z)) is (contains_first (f y) (map f xs))
  | inr later ↦ contains_later (f y) (map f xs) (f x) (map_contains f xs x later)
]

-- ---- places
-- each commits below the least place above all commits
pub commit_below : (ss : List Span) (s : Span) → Contains ss s → s.commit < above_commits ss
commit_below [] s (k, less, is) = absurd (omega (arith, less))
commit_below (t ∷ ss) s there = at (commit_below ss s) (contains_cases t ss s there)
  where
    at : (Contains ss s → s.commit < above_commits ss) → (t ≡ s) ⊎ Contains ss s → s.commit < max (suc t.commit) (above_commits ss)
    at later (inl is) = let same : t.commit ≡ s.commit = ap (λ s. s.commit) is in omega (arith, same)
    at later (inr there) = let less : s.commit < above_commits ss = later there in omega (arith, less)

-- and that is the least such place
pub above_least : (ss : List Span) (place : ℕ) → ((s : Span) → Contains ss s → s.commit < place) → above_commits ss ≤ place
above_least [] place below = omega arith
above_least (t ∷ ss) place below =
    let first : t.commit < place = below t (contains_first t ss) in
    let rest : above_commits ss ≤ place = above_least ss place (λ s there. below s (contains_later t ss s there)) in
    omega (arith, first, rest)

-- a transaction that has places stands among those that have
pub txn_there : (ss : List Span) (s : Span) → Contains ss s → 1 ≤ times s.txn (map (λ s. s.txn) ss)
txn_there [] s (k, less, is) = absurd (omega (arith, less))
txn_there (t ∷ ss) s there = at (txn_there ss s) (contains_cases t ss s there)
  where
    at : (Contains ss s → 1 ≤ times s.txn (map (λ s. s.txn) ss)) → (t ≡ s) ⊎ Contains ss s → 1 ≤ times s.txn (map (λ s. s.txn) (t ∷ ss))
    at later (inl is) = omega (arith, times_here s.txn t.txn (map (λ s. s.txn) ss) (ap (λ s. s.txn) is))
    at later (inr there) = omega (arith, later there, times_more s.txn t.txn (map (λ s. s.txn) ss))

-- from the least place above all commits on nobody commits
pub nobody_commits : (ss : List Span) (place : ℕ) → above_commits ss ≤ place → committing ss place ≡ None
nobody_commits [] place le = refl
nobody_commits (s ∷ ss) place le =
    ap (λ b. cond b (Some s.txn) (committing ss place)) (ne_eqb s.commit place (λ e. omega (arith, le, e))) ∙ nobody_commits ss place (omega (arith, le))

-- who commits at a place stands among those that have places
pub committing_there : (ss : List Span) (place n : ℕ) → committing ss place ≡ Some n → 1 ≤ times n (map (λ s. s.txn) ss)
committing_there [] place n is = absurd (none-some n is)
committing_there (s ∷ ss) place n is = at (committing_there ss place n) (s.commit == place) is
  where
    at : (committing ss place ≡ Some n → 1 ≤ times n (map (λ s. s.txn) ss)) → (b : Bool) → cond b (Some s.txn) (committing ss place) ≡ Some n → 1 ≤ times n (map (λ s. s.txn) (s ∷ ss))
    at later true is = omega (arith, times_here n s.txn (map (λ s. s.txn) ss) (same_Some s.txn n is))
    at later false is = omega (arith, later is, times_more n s.txn (map (λ s. s.txn) ss))

pub committing_append : (xs ys : List Span) (place : ℕ) → committing (xs ++ ys) place ≡ option_or (committing xs place) (committing ys place)
committing_append [] ys place = refl
committing_append (s ∷ xs) ys place = either (committing_append xs ys place) (s.commit == place)
  where
    either : committing (xs ++ ys) place ≡ option_or (committing xs place) (committing ys place) → (b : Bool)
        → cond b (Some s.txn) (committing (xs ++ ys) place) ≡ option_or (cond b (Some s.txn) (committing xs place)) (committing ys place)
    either rest true = refl
    either rest false = rest

-- where starts come before commits, no place from there on is taken
pub none_taken : (ss : List Span) → ((s : Span) → Contains ss s → s.start < s.commit) → (place : ℕ) → above_commits ss ≤ place → times place (all_places ss) ≡ 0
none_taken [] forward place le = refl
none_taken (s ∷ ss) forward place le =
    let less : s.start < s.commit = forward s (contains_first s ss) in
    let rest : times place (all_places ss) ≡ 0 = none_taken ss (λ t there. forward t (contains_later s ss t there)) place (omega (arith, le)) in
    ap (λ b. cond b (1 + times place (s.commit ∷ all_places ss)) (times place (s.commit ∷ all_places ss))) (ne_eqb s.start place (λ e. omega (arith, le, e, less)))
    ∙ ap (λ b. cond b (1 + times place (all_places ss)) (times place (all_places ss))) (ne_eqb s.commit place (λ e. omega (arith, le, e)))
    ∙ rest

module _ (before : Placed) where
  -- nobody that was moved commits before
  pub nobody_moved : (ss : List Span) (place : ℕ) → place < above_commits before.spans → committing (map (moved_span before) ss) place ≡ None
  nobody_moved [] place less = refl
  nobody_moved (s ∷ ss) place less =
      ap (λ b. cond b (Some (moved before.part s.txn)) (committing (map (moved_span before) ss) place)) (ne_eqb (above_commits before.spans + s.commit) place (λ e. omega (arith, less, e)))
      ∙ nobody_moved ss place less

  -- and behind commit those who committed there
  pub committing_moved : (ss : List Span) (place : ℕ) → committing (map (moved_span before) ss) (above_commits before.spans + place) ≡ option_map (moved before.part) (committing ss place)
  committing_moved [] place = refl
  committing_moved (s ∷ ss) place =
      ap (λ b. cond b (Some (moved before.part s.txn)) (committing (map (moved_span before) ss) (above_commits before.spans + place))) (same_behind (above_commits before.spans) s.commit place)
      ∙ either (committing_moved ss place) (s.commit == place)
    where
      either : committing (map (moved_span before) ss) (above_commits before.spans + place) ≡ option_map (moved before.part) (committing ss place) → (b : Bool)
          → cond b (Some (moved before.part s.txn)) (committing (map (moved_span before) ss) (above_commits before.spans + place)) ≡ option_map (moved before.part) (cond b (Some s.txn) (committing ss place))
      either rest true = refl
      either rest false = rest

  -- the places and numbers of moved ones
  pub places_moved : (ss : List Span) → all_places (map (moved_span before) ss) ≡ map (λ p. above_commits before.spans + p) (all_places ss)
  places_moved [] = refl
  places_moved (s ∷ ss) = ap (λ ps. (above_commits before.spans + s.start) ∷ (above_commits before.spans + s.commit) ∷ ps) (places_moved ss)

  pub txns_moved : (ss : List Span) → map (λ s. s.txn) (map (moved_span before) ss) ≡ map (moved before.part) (map (λ s. s.txn) ss)
  txns_moved [] = refl
  txns_moved (s ∷ ss) = ap (λ ns. moved before.part s.txn ∷ ns) (txns_moved ss)
