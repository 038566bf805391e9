-- Which committed transactions depend on which, as tests of a history's operations. Of a sound history these are its
-- dependencies.
--
-- Origin: Adya, Liskov and O'Neil, "Generalized Isolation Level Definitions" (2000), section 4.
use Rattle.std.specs.Prelude.{◌↔◌, ℕ, ◌==◌, Bool, false, not, ◌&&◌, ◌||◌, Option, List, map, filter, Contains, IfSome}
use Rattle.std.specs.List.{list_any}
use Rattle.std.specs.FinMap as finite
use Rattle.lab_table.specs.Row.{Row}
use Rattle.lab_history.specs.History.{History}
use Rattle.lab_history.specs.Version.{outcome_of, installers}
use Rattle.lab_deps.specs.Edges.{IsEdge}
use Rattle.lab_deps.specs.KindsBetween.{KindsBetween}
use Rattle.lab_deps.specs.Soundness.{IsSound, has_committed}
use Rattle.lab_deps.specs.declared.edge.Edge.{Edge}
use Rattle.lab_deps.specs.declared.edge.Kind.{Kind}
use Rattle.lab_deps.specs.declared.edge.Kind.TheVariants.{Write, ItemRead, PredicateRead, ItemAnti, PredicateAnti}
use Rattle.lab_drawing.specs.Forks.{follows, depends}

-- the committed transactions
abbrev pub committed : History → List ℕ
committed h = map (λ t. t.no) (filter (λ t. has_committed (outcome_of h t.no)) h.txns)

-- whether one transaction depends on another in this way at a row
abbrev pub depends_at : History → ℕ → ℕ → Kind → Row → Bool
depends_at h from to Write row = follows from to false (installers h row)
depends_at h from to ItemRead row = depends h from to ItemRead row
depends_at h from to PredicateRead row = depends h from to PredicateRead row
depends_at h from to ItemAnti row = depends h from to ItemAnti row
depends_at h from to PredicateAnti row = depends h from to PredicateAnti row

-- the same at some row
abbrev pub is_tied : History → Kind → ℕ → ℕ → Bool
is_tied h kind from to = list_any (λ e. depends_at h from to kind e.0) (finite.entries h.installed)

-- whether two transactions have committed, and aren't one
abbrev pub are_two : History → ℕ → ℕ → Bool
are_two h from to = has_committed (outcome_of h from) && (has_committed (outcome_of h to) && not (from == to))

-- whether one transaction depends on what another one wrote
abbrev pub flows : History → ℕ → ℕ → Bool
flows h from to = are_two h from to && (is_tied h Write from to || (is_tied h ItemRead from to || is_tied h PredicateRead from to))

-- whether a transaction doesn't see what another one wrote
abbrev pub passes : History → ℕ → ℕ → Bool
passes h from to = are_two h from to && (is_tied h ItemAnti from to || is_tied h PredicateAnti from to)

-- what is known of a history's dependencies: the history is sound, and these are all
abbrev pub AreKnown : History → Option KindsBetween → Type 0
AreKnown h net = IfSome net (λ net. IsSound h × ((e : Edge) → Contains net.edges e ↔ IsEdge h e))
