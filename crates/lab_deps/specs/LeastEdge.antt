-- The least dependency of some kinds between two transactions.
use Rattle.std.specs.Prelude.{◌≡◌, ℕ, ◌&&◌, Bool, true, cond, Option, Some, None, List, Contains}
use Rattle.std.specs.Ordering.{is_lt}
use Rattle.lab_deps.specs.EdgeOrder.{edge_cmp}
use Rattle.lab_deps.specs.FirstOf.{IsFirstOf}
use Rattle.lab_deps.specs.declared.edge.Edge.{Edge}
use Rattle.lab_deps.specs.declared.edge.Kind.{Kind}
use Rattle.lab_deps.specs.declared.edge.Kind.TheVariants.{Write, ItemRead, PredicateRead, ItemAnti, PredicateAnti}

-- one edge is less than another one
abbrev pub IsLessEdge : Edge → Edge → Type 0
IsLessEdge e f = is_lt (edge_cmp e f) ≡ true

-- an edge of a list leads from one transaction to another, and is of one of some kinds
abbrev pub Fits : List Edge → ℕ → ℕ → (Kind → Bool) → Edge → Type 0
Fits es from to kinds e = Contains es e × (e.from ≡ from) × (e.to ≡ to) × (kinds e.kind ≡ true)

-- what is found is the least such edge
abbrev pub IsLeastFitting : List Edge → ℕ → ℕ → (Kind → Bool) → Option Edge → Type 0
IsLeastFitting es from to kinds found = IsFirstOf IsLessEdge (Fits es from to kinds) found

-- whether two sets of kinds have a kind
abbrev pub both_have : (Kind → Bool) → (Kind → Bool) → Kind → Bool
both_have a b kind = a kind && b kind

-- the first kind that both have
abbrev pub least_kind : (Kind → Bool) → (Kind → Bool) → Option Kind
least_kind a b =
    cond (both_have a b Write) (Some Write) (cond (both_have a b ItemRead) (Some ItemRead) (cond (both_have a b PredicateRead) (Some PredicateRead)
    (cond (both_have a b ItemAnti) (Some ItemAnti) (cond (both_have a b PredicateAnti) (Some PredicateAnti) None))))
