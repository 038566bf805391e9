-- The set of kinds of the dependencies from one committed transaction to another.
use Rattle.std.specs.Prelude.{◌≡◌, ◌↔◌, ◌+◌, ℕ, Some, true, List, slice_get, Contains}
use Rattle.lab_table.specs.Row.{Row}
use Rattle.lab_deps.specs.KindBits.{has_bit, bits_of, edge_of, place}
use Rattle.lab_deps.specs.KindSets.{among}
use Rattle.lab_deps.specs.declared.edge.Edge.{Edge}
use Rattle.lab_deps.specs.declared.edge.Kind.{Kind}
use Rattle.lab_deps.specs.declared.kinds.Kinds.{Kinds}

-- the numbers of some transactions, and dependencies
pub record KindsBetween : Type 0 where
  pub numbers : List ℕ
  pub edges : List Edge

-- these are the kinds of the dependencies from one transaction to another
abbrev pub AreKinds : List Edge → ℕ → ℕ → Kinds → Type 0
AreKinds es from to kinds = (kind : Kind) → (among kinds kind ≡ true) ↔ ((row : Row) × Contains es (edge_of from to kind row))

-- cells tell of each two transactions which kinds there are, and these have places in their order
pub record IsTold (es : List Edge) (numbers ps : List ℕ) (w : ℕ) (cs : List ℕ) : Type 0 where
  pub exact : (from to : ℕ) (kind : Kind) → (has_bit (bits_of ps w cs from to) kind ≡ true) ↔ ((row : Row) × Contains es (edge_of from to kind row))
  pub at : (k n : ℕ) → slice_get numbers k ≡ Some n → place ps n ≡ k + 1
