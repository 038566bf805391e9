-- Dependencies as the arrows of a graph, whose nodes are the positions of transactions in a list.
use Rattle.std.specs.Prelude.{◌≡◌, ◌↔◌, ℕ, Bool, true, false, List, [], ◌∷◌, length, slice_get, Some, Contains}
use Rattle.std.specs.Ordering.{is_lt}
use Rattle.lab_order.specs.Arrows.{Arrows, nodes_of, IsArrow}
use Rattle.lab_history.specs.History.{History}
use Rattle.lab_deps.specs.Edges.{IsEdge}
use Rattle.lab_deps.specs.EdgeOrder.{edge_cmp}
use Rattle.lab_deps.specs.KindsBetween.{KindsBetween}
use Rattle.lab_deps.specs.declared.edge.Edge.{Edge}
use Rattle.lab_deps.specs.declared.edge.Kind.{Kind}
use Rattle.lab_judge.specs.LeastWalks.{AreCommitted}

-- a dependency of a kind that passes a test leads from the transaction of one node to that of another
pub record Tie (test : Kind → Bool) (net : KindsBetween) (a b : ℕ) : Type 0 where
  pub edge : Edge
  pub is_one : Contains net.edges edge
  pub kind : test edge.kind ≡ true
  pub from : slice_get net.numbers a ≡ Some edge.from
  pub to : slice_get net.numbers b ≡ Some edge.to

-- the least such dependency, by kind and row
pub record IsLeastTie (test : Kind → Bool) (net : KindsBetween) (a b : ℕ) (e : Edge) : Type 0 where
  pub is_one : Contains net.edges e
  pub kind : test e.kind ≡ true
  pub from : slice_get net.numbers a ≡ Some e.from
  pub to : slice_get net.numbers b ≡ Some e.to
  pub least : (f : Edge) → Contains net.edges f → f.from ≡ e.from → f.to ≡ e.to → test f.kind ≡ true → is_lt (edge_cmp f e) ≡ false

-- the graph has an arrow exactly where a dependency of an allowed kind leads
pub record IsGraphOf (allowed : Kind → Bool) (net : KindsBetween) (graph : Arrows) : Type 0 where
  pub size : nodes_of graph ≡ length net.numbers
  pub arrows : (a b : ℕ) → IsArrow graph a b ↔ Tie allowed net a b

-- the committed transactions of a history by rising number, and edges of it, among which are all of allowed kinds
pub record IsNetOf (h : History) (allowed : Kind → Bool) (net : KindsBetween) : Type 0 where
  pub committed : AreCommitted h net.numbers
  pub edges : (e : Edge) → Contains net.edges e → IsEdge h e
  pub all : (e : Edge) → IsEdge h e → allowed e.kind ≡ true → Contains net.edges e

-- the last node of a way from a node along these
abbrev pub last_of : ℕ → List ℕ → ℕ
last_of from [] = from
last_of from (n ∷ ns) = last_of n ns
