-- The graph of starts and commits.
use Rattle.std.specs.Prelude.{◌≡◌, ◌⊎◌, ◌↔◌, ℕ, zero, suc, ◌*◌, ◌/◌, ◌%◌, ◌<◌, ◌==◌, ◌&&◌, ◌||◌, Bool, false, cond, List, length, slice_index}
use Rattle.lab_order.specs.Arrows.{Arrows, nodes_of, IsArrow}
use Rattle.lab_order.specs.Order.{position}
use Rattle.lab_deps.specs.KindsBetween.{KindsBetween}
use Rattle.lab_judge.specs.Runs.{Span}
use Rattle.lab_judge.specs.Joining.{start_node, commit_node, Lands}
use Rattle.lab_judge.specs.Places.{is_anti, is_flow}
use Rattle.lab_judge.specs.declared.joining.Joining.TheVariants.{StartToCommit, CommitToStart}
use Rattle.lab_judge.specs.declared.places.Point.{Point}
use Rattle.lab_judge.specs.declared.places.Point.TheVariants.{Start, Commit}

-- whether the two nodes are the start and the commit of one of so many transactions
abbrev pub spans : ℕ → ℕ → ℕ → Bool
spans zero a b = false
spans (suc p) a b = (start_node p == a && commit_node p == b) || spans p a b

-- they are
abbrev pub AreSpan : ℕ → ℕ → ℕ → Type 0
AreSpan count a b = (p : ℕ) × (p < count) × ((start_node p ≡ a) × (commit_node p ≡ b))

-- the graph has an arrow exactly from the start to the commit of each, from a commit to a start where a dependency is no anti-dependency, and from a start to a commit where it is one
pub record IsPlaceGraph (net : KindsBetween) (graph : Arrows) : Type 0 where
  pub size : nodes_of graph ≡ 2 * length net.numbers
  pub arrows : (a b : ℕ) → IsArrow graph a b ↔ (AreSpan (length net.numbers) a b ⊎ (Lands is_flow CommitToStart net a b ⊎ Lands is_anti StartToCommit net a b))

-- the start or the commit at a node
abbrev pub point_at : List ℕ → ℕ → Point
point_at nodes a = cond (a % 2 == 0) (Start (slice_index nodes (a / 2))) (Commit (slice_index nodes (a / 2)))

-- a transaction with the places that its nodes have
abbrev pub span_in : List ℕ → List ℕ → ℕ → Span
span_in nodes places n = record { txn = n; start = slice_index places (start_node (position nodes n)); commit = slice_index places (commit_node (position nodes n)) }
