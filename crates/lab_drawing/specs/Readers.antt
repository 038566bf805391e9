-- The read-only anomaly: under snapshot isolation, a transaction that writes nothing makes a history not serializable that
-- is serializable without it. Since it writes nothing, the dependencies between the others are the same without it.
--
-- Origin: Fekete, O'Neil and O'Neil, "A Read-Only Transaction Anomaly Under Snapshot Isolation" (2004); snapshot runs by
-- the order of starts and commits, and serializable histories by that of transactions: Adya, Liskov and O'Neil,
-- "Generalized Isolation Level Definitions" (2000).
use Rattle.std.specs.Prelude.{◌≡◌, ℕ, ◌*◌, ◌/◌, ◌%◌, ◌==◌, nat_lt, Bool, false, not, true, ◌&&◌, ◌||◌, cond, List, length, slice_index}
use Rattle.std.specs.List.{list_any, list_all}
use Rattle.std.specs.FinMap as finite
use Rattle.lab_table.specs.Table.{Writes}
use Rattle.lab_history.specs.History.{History}
use Rattle.lab_history.specs.Version.{ops_of}
use Rattle.lab_history.specs.declared.operation.Op.{Op}
use Rattle.lab_deps.specs.declared.edge.Edge.{Edge}
use Rattle.lab_order.specs.Arrows.{Arrows, nodes_of, has_arrow}
use Rattle.lab_order.specs.declared.ordering.Ordered.{Ordered}
use Rattle.lab_order.specs.declared.ordering.Ordered.TheVariants.{Order, Circle}
use Rattle.lab_reports.specs.declared.phenomenon.Phenomenon.{Phenomenon}
use Rattle.lab_reports.specs.declared.phenomenon.Phenomenon.TheVariants.{G0, G1a, G1b, G1c, GSingle, G2Item, G2}
use Rattle.lab_drawing.specs.Cycles.{walk_phenomenon}
use Rattle.lab_drawing.specs.Dependence.{flows, passes, committed}
use Rattle.lab_drawing.specs.Orderable.{is_orderable}
use Rattle.lab_drawing.specs.declared.readers.Nodes.{Nodes}
use Rattle.lab_drawing.specs.declared.readers.Nodes.TheVariants.{Points, All, Without}

-- ---- what is to be put in an order

-- whether one transaction comes before another
abbrev pub comes_before : History → ℕ → ℕ → Bool
comes_before h from to = flows h from to || passes h from to

-- whether one transaction comes before another, neither of which is this one
abbrev pub is_before : History → ℕ → ℕ → ℕ → Bool
is_before h without from to = not (from == without) && (not (to == without) && comes_before h from to)

-- whether the start or commit of one transaction comes before that of another: a start before its own commit, and before that of a transaction whose write isn't seen; a commit before the start of a transaction that depends on what was written
abbrev pub is_led : History → ℕ → Bool → ℕ → Bool → Bool
is_led h from is_start to to_start = cond is_start (not to_start && (from == to || passes h from to)) (to_start && flows h from to)

-- how many nodes there are: the starts and commits of the committed transactions, or as many as these
abbrev pub count_of : History → Nodes → ℕ
count_of h Points = 2 * length (committed h)
count_of h All = length (committed h)
count_of h (Without n) = length (committed h)

-- whether one node comes before another: of the p-th transaction, the start is the node 2p and the commit 2p + 1
abbrev pub leads : History → Nodes → ℕ → ℕ → Bool
leads h Points a b = is_led h (slice_index (committed h) (a / 2)) (a % 2 == 0) (slice_index (committed h) (b / 2)) (b % 2 == 0)
leads h All a b = comes_before h (slice_index (committed h) a) (slice_index (committed h) b)
leads h (Without n) a b = is_before h n (slice_index (committed h) a) (slice_index (committed h) b)

-- of two nodes that pass a test, an arrow was added to a graph if the first comes before the second
pub record Grows (h : History) (o : Nodes) (looked : ℕ → ℕ → Bool) (old new : Arrows) : Type 0 where
  pub size : nodes_of new ≡ nodes_of old
  pub arrows : (a b : ℕ) → has_arrow new a b ≡ ((looked a b && leads h o a b) || has_arrow old a b)

-- a graph has an arrow exactly where one node comes before another
pub record IsGraphOf (h : History) (o : Nodes) (graph : Arrows) : Type 0 where
  pub size : nodes_of graph ≡ count_of h o
  pub arrows : (a b : ℕ) → has_arrow graph a b ≡ ((nat_lt a (count_of h o) && nat_lt b (count_of h o)) && leads h o a b)

-- whether what was found of a graph is an order, and no cycle
abbrev pub is_order : Ordered → Bool
is_order (Order nodes) = true
is_order (Circle nodes) = false

-- whether the nodes can be put in an order
abbrev pub can_order : History → Nodes → Bool
can_order h o = is_orderable (leads h o) (count_of h o)

-- ---- the anomaly

-- whether nothing is written
abbrev pub is_nothing : Writes → Bool
is_nothing writes = length (finite.entries writes) == 0

-- whether an operation wrote no row
abbrev pub wrote_nothing : Op → Bool
wrote_nothing op = is_nothing op.writes

-- whether none of a transaction's operations wrote a row
abbrev pub is_read_only : History → ℕ → Bool
is_read_only h n = list_all wrote_nothing (ops_of h n)

-- whether some transaction of a cycle wrote no row
abbrev pub some_read_only : History → List Edge → Bool
some_read_only h walk = list_any (λ e. is_read_only h e.from) walk

-- whether a cycle of this phenomenon has two anti-dependencies at least
abbrev pub is_g2 : Phenomenon → Bool
is_g2 G0 = false
is_g2 G1a = false
is_g2 G1b = false
is_g2 G1c = false
is_g2 GSingle = false
is_g2 G2Item = true
is_g2 G2 = true

-- whether a transaction wrote nothing, and the others can be ordered
abbrev pub stands_in_the_way : History → ℕ → Bool
stands_in_the_way h n = cond (is_read_only h n) (can_order h (Without n)) false

-- the same of some transaction of a cycle
abbrev pub some_stand_in_the_way : History → List Edge → Bool
some_stand_in_the_way h walk = list_any (λ e. stands_in_the_way h e.from) walk

-- whether the history is a snapshot run, and some transaction of a cycle stands in the way of an order
abbrev pub is_in_run : History → List Edge → Bool
is_in_run h walk = cond (can_order h Points) (some_stand_in_the_way h walk) false

-- whether a cycle may be a read-only anomaly
abbrev pub may_be : History → List Edge → Bool
may_be h walk = is_g2 (walk_phenomenon walk) && some_read_only h walk

-- whether a cycle is a read-only anomaly: it has a transaction that wrote nothing, the history is a snapshot run, and the others can be ordered; each cycle of a snapshot run has two anti-dependencies at least
abbrev pub is_read_only_anomaly : History → List Edge → Bool
is_read_only_anomaly h walk = cond (may_be h walk) (is_in_run h walk) false
