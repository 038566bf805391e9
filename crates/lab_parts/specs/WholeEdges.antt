-- The dependencies of a run, from those of its parts.
use Rattle.std.specs.Prelude.{◌≡◌, ℕ, ◌<◌, Some, List, ◌∷◌, slice_get}
use Rattle.lab_history.specs.History.{History}
use Rattle.lab_history.specs.Version.{IsCommitted}
use Rattle.lab_deps.specs.Edges.{IsEdge}
use Rattle.lab_deps.specs.declared.edge.Edge.{Edge}
use Rattle.lab_parts.specs.Whole.{moved, number_in}

-- a dependency of the part behind this one, between the numbers that its transactions have in the run
abbrev pub moved_edge : History → Edge → Edge
moved_edge before e = record { from = moved before e.from; to = moved before e.to; kind = e.kind; row = e.row }

-- a dependency of a part, whose place is counted from 0, between numbers of the run
abbrev pub edge_in : History → List History → ℕ → Edge → Edge
edge_in first parts place e = record { from = number_in first parts place e.from; to = number_in first parts place e.to; kind = e.kind; row = e.row }

-- a dependency of the run is one of a part
pub record IsWithin (first : History) (parts : List History) (e : Edge) : Type 0 where
  pub place : ℕ
  pub part : History
  pub is_part : slice_get (first ∷ parts) place ≡ Some part
  pub edge : Edge
  pub is_edge : IsEdge part edge
  pub moved_is : e ≡ edge_in first parts place edge

-- a number of the run is that of a committed transaction of the part at a place
pub record IsNumber (first : History) (parts : List History) (place n : ℕ) : Type 0 where
  pub part : History
  pub is_part : slice_get (first ∷ parts) place ≡ Some part
  pub no : ℕ
  pub committed : IsCommitted part no
  pub number_is : n ≡ number_in first parts place no

-- a dependency of the run leads from a transaction of a part to one of a later part
pub record LeadsForward (first : History) (parts : List History) (e : Edge) : Type 0 where
  pub earlier : ℕ
  pub later : ℕ
  pub from : IsNumber first parts earlier e.from
  pub to : IsNumber first parts later e.to
  pub forward : earlier < later
