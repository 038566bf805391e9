-- The committed transactions of a history, each once, by rising number (`AreNodes`), and tables of their positions.
use Rattle.std.specs.Prelude.{◌≡◌, ◌≢◌, ◌≤◌, ◌+◌, ◌==◌, ℕ, zero, suc, cond, Some, List, [], ◌∷◌, length, count_by, slice_get, Contains}
use Rattle.std.specs.List.Sorted.{IsStrictlyIncreasing}
use Rattle.lab_history.specs.History.{History}
use Rattle.lab_history.specs.Limits.{max_transactions}
use Rattle.lab_history.specs.Version.{outcome_of}
use Rattle.lab_deps.specs.KindBits.{place}
use Rattle.lab_deps.specs.Soundness.{has_committed}
use Rattle.lab_deps.specs.declared.edge.Edge.{Edge}
use Rattle.lab_deps.specs.declared.versions.Version.{Version}

-- each committed transaction stands in the list once, by rising number, and no other number does
pub record AreNodes (h : History) (ns : List ℕ) : Type 0 where
  pub each_once : (n : ℕ) → count_by (λ m. m == n) ns ≡ cond (has_committed (outcome_of h n)) 1 0
  pub rising : IsStrictlyIncreasing ns
  pub few : length ns ≤ max_transactions

-- how many committed transactions have a lesser number
abbrev pub committed_below : History → ℕ → ℕ
committed_below h zero = 0
committed_below h (suc n) = committed_below h n + cond (has_committed (outcome_of h n)) 1 0

-- the place of a committed transaction by rising number, counted from 1; 0 of any other
abbrev pub place_in_order : History → ℕ → ℕ
place_in_order h n = cond (has_committed (outcome_of h n)) (committed_below h n + 1) 0

-- the place of a number where these stand behind so many others, among which it has a place or 0
abbrev pub placed_behind : ℕ → ℕ → List ℕ → ℕ → ℕ
placed_behind found k [] n = found
placed_behind found k (m ∷ ms) n = placed_behind (cond (n == m) (k + 1) found) (k + 1) ms n

-- a table has the place of each of these, counted from 1, and none of other numbers
pub record IsNumbering (ns ps : List ℕ) : Type 0 where
  pub few : (n : ℕ) → place ps n ≤ length ns
  pub apart : (n m : ℕ) → place ps n ≡ place ps m → place ps n ≢ 0 → n ≡ m
  pub at : (k n : ℕ) → slice_get ns k ≡ Some n → place ps n ≡ k + 1

-- a table of places has those of a history's committed transactions
abbrev pub HasPlaces : History → List ℕ → Type 0
HasPlaces h ps = (n : ℕ) → place ps n ≡ place_in_order h n

-- a table of places has those of the installers of these versions
abbrev pub FitsVersions : List Version → List ℕ → Type 0
FitsVersions vs ps = (v : Version) → Contains vs v → place ps v.installer ≡ v.place

-- what is so of a sink that was made with a table that fits
abbrev pub where_fits : {S : Type 0} → (List ℕ → Type 0) → (S → List ℕ → List Edge → Type 0) → S → List ℕ → List Edge → Type 0
where_fits fits handed s made es = fits made → handed s made es
