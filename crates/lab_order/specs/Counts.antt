-- How many predecessors nodes still wait for, and successors as the transposition of predecessors.
use Rattle.std.specs.Prelude.{◌≡◌, ℕ, ◌==◌, List, [], count_by, slice_index_or}
use Rattle.lab_order.specs.Arrows.{Arrows, before}

-- how often a node stands in a list
abbrev pub how_often : List ℕ → ℕ → ℕ
how_often nodes node = count_by (λ n. n == node) nodes

-- the nodes to which a node has an arrow
abbrev pub after : List (List ℕ) → ℕ → List ℕ
after rows node = slice_index_or rows node []

-- successors are the transposition of predecessors
abbrev pub IsTransposed : Arrows → List (List ℕ) → Type 0
IsTransposed graph rows = (from to : ℕ) → how_often (after rows from) to ≡ how_often (before graph to) from

-- the number that is kept for a node
abbrev pub waits_of : List ℕ → ℕ → ℕ
waits_of waits node = slice_index_or waits node 0
