-- Whether nodes 0, 1, .. can be put in an order along which every arrow points forward.
--
-- Nodes to which no arrow leads are taken away, round by round: what is left in the end goes round in cycles.
--
-- Origin: topological order: Kahn, "Topological Sorting of Large Networks" (1962).
use Rattle.std.specs.Prelude.{◌≡◌, ℕ, zero, suc, ◌<◌, Bool, true, false, List, [], ◌∷◌, filter}
use Rattle.std.specs.List.{list_any}

-- the nodes below a number
abbrev pub below : ℕ → List ℕ
below zero = []
below (suc n) = n ∷ below n

-- whether an arrow leads to a node from one of these
abbrev pub is_led_to : (ℕ → ℕ → Bool) → List ℕ → ℕ → Bool
is_led_to leads nodes b = list_any (λ a. leads a b) nodes

-- those of some nodes to which an arrow leads from one of them
abbrev pub led_to : (ℕ → ℕ → Bool) → List ℕ → List ℕ
led_to leads nodes = filter (is_led_to leads nodes) nodes

-- the same again, so many times
abbrev pub left_after : ℕ → (ℕ → ℕ → Bool) → List ℕ → List ℕ
left_after zero leads nodes = nodes
left_after (suc rounds) leads nodes = left_after rounds leads (led_to leads nodes)

-- whether there are none
abbrev pub are_none : List ℕ → Bool
are_none [] = true
are_none (n ∷ ns) = false

-- whether none of so many nodes is left after as many rounds
abbrev pub is_orderable : (ℕ → ℕ → Bool) → ℕ → Bool
is_orderable leads count = are_none (left_after count leads (below count))

-- so many nodes have places along which every arrow points forward
abbrev pub HasPlaces : (ℕ → ℕ → Bool) → ℕ → Type 0
HasPlaces leads count = (place : ℕ → ℕ) × ((a b : ℕ) → a < count → b < count → leads a b ≡ true → place a < place b)
