-- The dependencies that the picture of a yes shows: of each two nearby transactions the least.
use Rattle.std.specs.Prelude.{◌≡◌, ℕ, ◌+◌, ◌%◌, ◌==◌, min, false, cond, Option, Some, None, List, [], ◌∷◌, ◌++◌, map, flat_map, length, take, ⊤}
use Rattle.std.specs.Ordering.{is_lt}
use Rattle.lab_history.specs.History.{History}
use Rattle.lab_deps.specs.Edges.{IsEdge}
use Rattle.lab_deps.specs.EdgeOrder.{edge_cmp}
use Rattle.lab_deps.specs.declared.edge.Edge.{Edge}
use Rattle.lab_judge.specs.declared.report.Report.{Report}
use Rattle.lab_judge.specs.declared.serial.Serial.{Serial}
use Rattle.lab_judge.specs.declared.serial.Serial.TheVariants as serial
use Rattle.lab_drawing.specs.Making.{arrows_of}
use Rattle.lab_drawing.specs.Sketch.{Sketch}
use Rattle.lab_reports.specs.declared.phenomenon.Phenomenon.{Phenomenon}
use Rattle.lab_drawing.specs.declared.drawing.Arrow.{Arrow}
use Rattle.lab_picture.specs.declared.forward.Pair.{Pair}

-- a transaction with those right behind it: with two where it is the first of a band, else with one
abbrev pub next_pairs : ℕ → ℕ → List ℕ → List Pair
next_pairs place n ns = map (λ m. record { from = n; to = m }) (take (min (length ns) (cond (place % 3 == 0) 2 1)) ns)

-- each two transactions of one band, and the last of a band with the first of the next
abbrev pub near_pairs : ℕ → List ℕ → List Pair
near_pairs place [] = []
near_pairs place (n ∷ ns) = next_pairs place n ns ++ near_pairs (place + 1) ns

-- the least dependency of the second of two transactions on the first, by kind and row; or there is none
abbrev pub IsLeastOf : History → Pair → Option Edge → Type 0
IsLeastOf h p None = (e : Edge) → IsEdge h e → e.from ≡ p.from → e.to ≡ p.to → ⊥
IsLeastOf h p (Some least) = IsEdge h least × (least.from ≡ p.from) × (least.to ≡ p.to)
    × ((e : Edge) → IsEdge h e → e.from ≡ p.from → e.to ≡ p.to → is_lt (edge_cmp e least) ≡ false)

-- the least of each two
abbrev pub AreLeastOf : History → List Pair → List (Option Edge) → Type 0
AreLeastOf h [] [] = ⊤
AreLeastOf h [] (o ∷ found) = ⊥
AreLeastOf h (p ∷ pairs) [] = ⊥
AreLeastOf h (p ∷ pairs) (o ∷ found) = IsLeastOf h p o × AreLeastOf h pairs found

-- the arrow of a dependency that there may be
abbrev pub arrows_at : History → Option Edge → List Arrow
arrows_at h None = []
arrows_at h (Some e) = arrows_of h e

-- the arrows of dependencies that there may be
abbrev pub arrows_in : History → List (Option Edge) → List Arrow
arrows_in h found = flat_map (arrows_at h) found

-- these are the arrows of the least dependencies between transactions that are near to each other
pub record AreForward (h : History) (columns : List ℕ) (arrows : List Arrow) : Type 0 where
  pub found : List (Option Edge)
  pub least : AreLeastOf h (near_pairs 0 columns) found
  pub arrows_are : arrows ≡ arrows_in h found

-- the transactions of a yes that are drawn
abbrev pub order_of : Serial → List ℕ
order_of (serial.Yes order) = take (min (length order) 40) order
order_of (serial.NoFault fault) = []
order_of (serial.NoCycle walk) = []

-- the same of what is asked for
abbrev pub yes_columns : Report → Option Phenomenon → List ℕ
yes_columns report None = order_of report.serial
yes_columns report (Some phenomenon) = []

-- a drawing with these arrows of a yes
abbrev pub with_forward : List Arrow → Sketch → Sketch
with_forward arrows d = record { columns = d.columns; arrows = d.arrows; marked = d.marked; about = d.about; note = d.note; title = d.title; forward = arrows; thin = d.thin; rows = d.rows }
