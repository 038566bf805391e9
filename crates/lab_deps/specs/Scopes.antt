-- Which dependencies are meant, all or the write-dependencies alone, and what is known of them.
use Rattle.std.specs.Prelude.{◌≤◌, ℕ, List, length}
use Rattle.std.specs.List.{flat_map, Sorted.{IsStrictlyIncreasing}}
use Rattle.std.specs.FinMap as map
use Rattle.lab_table.specs.Row.{Row}
use Rattle.lab_history.specs.History.{History}
use Rattle.lab_history.specs.Limits.{max_transactions}
use Rattle.lab_deps.specs.Collected.{neighbours_at, all_edges}
use Rattle.lab_deps.specs.KindsBetween.{IsTold}
use Rattle.lab_deps.specs.Soundness.{IsSound, Stands}
use Rattle.lab_deps.specs.declared.edge.Edge.{Edge}
use Rattle.lab_deps.specs.declared.fault.LocalFault.TheVariants.{InstallOrder}
use Rattle.lab_deps.specs.declared.scope.Scope.{Scope}
use Rattle.lab_deps.specs.declared.scope.Scope.TheVariants.{All, Writes}

-- what has to be so of a history
abbrev pub Allows : Scope → History → Type 0
Allows All h = IsSound h
Allows Writes h = (row : Row) → Stands h (InstallOrder row) → ⊥

-- the edges that are meant
abbrev pub edges_in : Scope → History → List Edge
edges_in All h = all_edges h
edges_in Writes h = flat_map neighbours_at (map.entries h.installed)

-- cells tell of these transactions which kinds of edges there are
pub record IsKnown (scope : Scope) (h : History) (ns ps : List ℕ) (w : ℕ) (cs : List ℕ) : Type 0 where
  pub allowed : Allows scope h
  pub rising : IsStrictlyIncreasing ns
  pub few : length ns ≤ max_transactions
  pub told : IsTold (edges_in scope h) ns ps w cs
