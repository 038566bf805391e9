-- Which of several cycles a report shows. Between two transactions a cycle takes the least edge of an allowed kind.
use Rattle.std.specs.Prelude.{◌≡◌, ◌<◌, ◌≤◌, ◌↔◌, ℕ, Bool, true, false, List, [], ◌∷◌, ◌++◌, length, slice_index, IsTrue, ⊤}
use Rattle.std.specs.Ordering.{is_lt}
use Rattle.std.specs.List.{All}
use Rattle.std.specs.List.Sorted.{IsStrictlyIncreasing}
use Rattle.lab_order.specs.Arrows.{Arrows, nodes_of, has_arrow}
use Rattle.lab_order.specs.Back.{IsBackCircle}
use Rattle.lab_order.specs.Least.{IsLeast}
use Rattle.lab_order.specs.Order.{position}
use Rattle.lab_order.specs.Path.{IsShortestPath}
use Rattle.lab_history.specs.History.{History}
use Rattle.lab_deps.specs.Edges.{IsEdge}
use Rattle.lab_deps.specs.EdgeOrder.{edge_cmp}
use Rattle.lab_deps.specs.KindSets.{is_any, is_write, is_flow, is_anti, is_item_anti}
use Rattle.lab_deps.specs.declared.edge.Edge.{Edge}
use Rattle.lab_deps.specs.declared.edge.Kind.{Kind}
use Rattle.lab_judge.specs.Findings as found
use Rattle.lab_judge.specs.Openings.{IsOpening}
use Rattle.lab_judge.specs.Runs.{HoldsEachOnce}
use Rattle.lab_judge.specs.declared.report.Finding.{Finding}
use Rattle.lab_judge.specs.declared.report.Finding.TheVariants.{Absent, Walk, At, NotJudged}
use Rattle.lab_judge.specs.declared.serial.Serial.{Serial}
use Rattle.lab_judge.specs.declared.serial.Serial.TheVariants as serial

-- the committed transactions by rising number
pub record AreCommitted (h : History) (txns : List ℕ) : Type 0 where
  pub each_once : HoldsEachOnce h txns
  pub rising : IsStrictlyIncreasing txns

-- an edge of an allowed kind between the transactions at two places of a list
abbrev pub HasEdgeAt : History → (Kind → Bool) → List ℕ → ℕ → ℕ → Type 0
HasEdgeAt h allowed txns a b = (e : Edge) × IsEdge h e × (allowed e.kind ≡ true) × (position txns e.from ≡ a) × (position txns e.to ≡ b)

-- the graph of the edges of allowed kinds: its nodes are the places of transactions in a list, and an arrow is exactly where such an edge is
pub record IsEdgeGraph (h : History) (allowed : Kind → Bool) (txns : List ℕ) (graph : Arrows) : Type 0 where
  pub size : nodes_of graph ≡ length txns
  pub arrows : (a b : ℕ) → IsTrue (has_arrow graph a b) ↔ HasEdgeAt h allowed txns a b

-- the least edge of an allowed kind from one transaction to another, by kind and row
pub record IsLeastEdge (h : History) (allowed : Kind → Bool) (m n : ℕ) (e : Edge) : Type 0 where
  pub edge : IsEdge h e
  pub from : e.from ≡ m
  pub to : e.to ≡ n
  pub kind : allowed e.kind ≡ true
  pub least : (other : Edge) → IsEdge h other → other.from ≡ m → other.to ≡ n → allowed other.kind ≡ true → is_lt (edge_cmp other e) ≡ false

-- a walk from a node along these: from the transaction of each to that of the next it takes the least allowed edge
abbrev pub GoesAlong : History → (Kind → Bool) → List ℕ → ℕ → List ℕ → List Edge → Type 0
GoesAlong h allowed txns from [] [] = ⊤
GoesAlong h allowed txns from [] (e ∷ walk) = ⊥
GoesAlong h allowed txns from (n ∷ way) [] = ⊥
GoesAlong h allowed txns from (n ∷ way) (e ∷ walk) = IsLeastEdge h allowed (slice_index txns from) (slice_index txns n) e × GoesAlong h allowed txns n way walk

-- such a walk round a cycle, from its first node to the first again
abbrev pub GoesRound : History → (Kind → Bool) → List ℕ → List ℕ → List Edge → Type 0
GoesRound h allowed txns [] walk = ⊥
GoesRound h allowed txns (n ∷ way) walk = GoesAlong h allowed txns n (way ++ n ∷ []) walk

-- the walk round the cycle on the way back from the least transaction that no order can place
pub record IsBackWalk (h : History) (allowed : Kind → Bool) (walk : List Edge) : Type 0 where
  pub txns : List ℕ
  pub committed : AreCommitted h txns
  pub graph : Arrows
  pub edges : IsEdgeGraph h allowed txns graph
  pub circle : List ℕ
  pub back : IsBackCircle graph circle
  pub round : GoesRound h allowed txns circle walk

-- such a walk along a path, from its first node on
abbrev pub GoesBy : History → (Kind → Bool) → List ℕ → List ℕ → List Edge → Type 0
GoesBy h allowed txns [] walk = ⊥
GoesBy h allowed txns (n ∷ way) walk = GoesAlong h allowed txns n way walk

-- the way back of an edge: such a walk along the least of the shortest paths from where it ends to where it begins
pub record IsWayBack (h : History) (allowed : Kind → Bool) (graph : Arrows) (txns : List ℕ) (e : Edge) (back : List Edge) : Type 0 where
  pub path : List ℕ
  pub least : IsLeast (IsShortestPath graph (position txns e.to) (position txns e.from)) path
  pub goes : GoesBy h allowed txns path back

-- the first edge, in the order in which edges are listed, that opens a walk and from which a path leads back
pub record IsFirstOpening (h : History) (opening : Kind → Bool) (graph : Arrows) (txns : List ℕ) (e : Edge) : Type 0 where
  pub edge : IsEdge h e
  pub opens : IsOpening opening graph txns e
  pub first : (other : Edge) → IsEdge h other → IsOpening opening graph txns other → is_lt (edge_cmp other e) ≡ false

-- the same edges in the same round, begun with the first of those from the least transaction
pub record IsTurnToLeast (round walk : List Edge) : Type 0 where
  pub front : List Edge
  pub first : Edge
  pub rest : List Edge
  pub split : round ≡ front ++ first ∷ rest
  pub turned : walk ≡ (first ∷ rest) ++ front
  pub greater : All (λ e. first.from < e.from) front
  pub no_less : All (λ e. first.from ≤ e.from) rest

-- the round of the first edge that opens a walk and of its way back
pub record IsOpenedRound (h : History) (opening allowed : Kind → Bool) (walk : List Edge) : Type 0 where
  pub txns : List ℕ
  pub committed : AreCommitted h txns
  pub graph : Arrows
  pub edges : IsEdgeGraph h allowed txns graph
  pub edge : Edge
  pub first : IsFirstOpening h opening graph txns edge
  pub back : List Edge
  pub way : IsWayBack h allowed graph txns edge back
  pub turned : IsTurnToLeast (edge ∷ back) walk

-- the cycle of a serial no is the one on the way back
abbrev pub HasDueWalk : History → Serial → Type 0
HasDueWalk h (serial.Yes order) = ⊤
HasDueWalk h (serial.NoFault fault) = ⊤
HasDueWalk h (serial.NoCycle walk) = IsBackWalk h is_any walk

-- a walk that is found is the due one
abbrev pub FindsDue : (List Edge → Type 0) → Finding → Type 0
FindsDue is_due Absent = ⊤
FindsDue is_due (Walk walk) = is_due walk
FindsDue is_due (At n k row) = ⊤
FindsDue is_due NotJudged = ⊤

-- Of seven findings, one a phenomenon, the walks of G0 and G1c are those on the way back, over writes and over all that is no anti-dependency; the others are rounds of a first anti-dependency.
pub record FindsDueWalks (h : History) (p : List Finding) : Type 0 where
  pub seven : length p ≡ 7
  pub g0 : FindsDue (IsBackWalk h is_write) (found.g0 p)
  pub g1c : FindsDue (IsBackWalk h is_flow) (found.g1c p)
  pub g_single : FindsDue (IsOpenedRound h is_anti is_flow) (found.g_single p)
  pub g2_item : FindsDue (IsOpenedRound h is_item_anti is_any) (found.g2_item p)
  pub g2 : FindsDue (IsOpenedRound h is_anti is_any) (found.g2 p)
