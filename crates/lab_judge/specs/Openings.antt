-- Dependencies that open a cycle: one of some kinds, from which a path leads back; and cycles whose edges are of
-- given kinds.
use Rattle.std.specs.Prelude.{◌≡◌, ◌≤◌, ◌⊎◌, ℕ, Bool, true, false, not, List}
use Rattle.std.specs.List.{count_by}
use Rattle.lab_order.specs.Arrows.{Arrows}
use Rattle.lab_order.specs.Path.{Reaches}
use Rattle.lab_order.specs.Order.{position}
use Rattle.lab_history.specs.History.{History}
use Rattle.lab_deps.specs.declared.edge.Edge.{Edge}
use Rattle.lab_deps.specs.declared.edge.Kind.{Kind}
use Rattle.lab_judge.specs.Phenomena.{IsClosedWalk, count_kind}

-- how many dependencies have a kind that isn't allowed
abbrev pub count_others : (Kind → Bool) → List Edge → ℕ
count_others allowed es = count_by (λ e. not (allowed e.kind)) es

-- a cycle of edges of allowed kinds
abbrev pub IsClosedOf : History → (Kind → Bool) → List Edge → Type 0
IsClosedOf h allowed es = IsClosedWalk h es × (count_others allowed es ≡ 0)

-- each kind is allowed, or none that opens a walk is
abbrev pub AllowsAllOrNone : (Kind → Bool) → (Kind → Bool) → Type 0
AllowsAllOrNone opening allowed = ((kind : Kind) → allowed kind ≡ true) ⊎ ((kind : Kind) → opening kind ≡ true → allowed kind ≡ false)

-- a cycle that has an edge of an opening kind, and beside it edges of allowed kinds alone
abbrev pub IsOpenedWalk : History → (Kind → Bool) → (Kind → Bool) → List Edge → Type 0
IsOpenedWalk h opening allowed es = IsClosedWalk h es × (1 ≤ count_kind opening es) × (count_others allowed es ≤ 1)

-- a path leads back from where an edge ends to where it begins
abbrev pub LeadsBack : Arrows → List ℕ → Edge → Type 0
LeadsBack graph nodes e = Reaches graph (position nodes e.to) (position nodes e.from)

-- an edge that opens a walk, and from which a path leads back
abbrev pub IsOpening : (Kind → Bool) → Arrows → List ℕ → Edge → Type 0
IsOpening opening graph nodes e = (opening e.kind ≡ true) × LeadsBack graph nodes e
