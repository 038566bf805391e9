-- The versions at which a row turns from one of two classes to the other, by the result of a statement's test.
use Rattle.std.specs.Prelude.{◌≡◌, ◌⊎◌, ◌≤◌, ◌+◌, ◌-◌, ◌++◌, ℕ, ℤ, Bool, false, not, cond, Option, Some, None, is_some, List, [], ◌∷◌, map, get_or, slice_get, replicate, Contains, IfSome}
use Rattle.lab_table.specs.Row.{Row}
use Rattle.lab_table.specs.Table.{State}
use Rattle.lab_table.specs.Statement.{matches}
use Rattle.lab_table.specs.declared.statement.Statement.{Statement}
use Rattle.lab_deps.specs.Broken.{same_state}
use Rattle.lab_deps.specs.Edges.{differ}
use Rattle.lab_deps.specs.Collected.{apart_in, item_edge}
use Rattle.lab_deps.specs.EdgesByRow.{Chain}
use Rattle.lab_deps.specs.Marks.{marked}
use Rattle.lab_deps.specs.declared.edge.Edge.{Edge}
use Rattle.lab_deps.specs.declared.kept.Kept.{Kept}
use Rattle.lab_deps.specs.declared.reading.Reading.{Reading}
use Rattle.lab_deps.specs.declared.turns.Turns.{Turns}
use Rattle.lab_deps.specs.declared.versions.Version.{Version}

-- what a reader of a listed row has to do with a version that there may be
abbrev pub item_in : Reading → ℕ → Option Version → List Edge
item_in r p None = []
item_in r p (Some v) = apart_in (item_edge r p v.installer)

-- with the version that it sees, and the next one
abbrev pub items_of : Reading → List Version → List Edge
items_of r vs = item_in r (r.place - 1) (slice_get vs (r.place - 1)) ++ item_in r r.place (slice_get vs r.place)

-- the states that versions left
abbrev pub states : List Version → List State
states vs = map (λ v. v.value) vs

-- two states are told to be the same: by their values, or only by whether they are there
abbrev pub alike : Bool → State → State → Bool
alike exact x y = cond exact (same_state x y) (not (differ (is_some x) (is_some y)))

-- a test answers the same for all values, where states aren't told apart by them
abbrev pub Heeds : Bool → (State → Bool) → Type 0
Heeds exact f = exact ≡ false → (x y : ℤ) → f (Some x) ≡ f (Some y)

-- whether a test takes each of some states otherwise than a first one
abbrev pub asked : (State → Bool) → State → List State → List Bool
asked f before others = map (λ x. differ (f before) (f x)) others

-- what is answered for numbers of states; for others false, as for the first one
abbrev pub classes_of : List Bool → List ℕ → List Bool
classes_of answers numbers = map (λ g. get_or answers g false) numbers

-- a number tells of a state what a test answers
abbrev pub IsNumber : Bool → State → List State → State → ℕ → Type 0
IsNumber exact before others x g = (f : State → Bool) → Heeds exact f → get_or (asked f before others) g false ≡ differ (f before) (f x)

-- numbers tell it of all versions
abbrev pub AreNumbers : Bool → State → List State → List Version → List ℕ → Type 0
AreNumbers exact before others vs numbers = (f : State → Bool) → Heeds exact f → classes_of (asked f before others) numbers ≡ asked f before (states vs)

-- for each version of these classes the place of its installer, or 0 where it is of the class before
abbrev pub turned : Bool → List Bool → List Version → List ℕ
turned before [] vs = []
turned before (c ∷ cs) [] = []
turned before (c ∷ cs) (v ∷ vs) = cond (differ before c) v.place 0 ∷ turned c cs vs

-- they are these, or none where all are of the class before
abbrev pub AreInstallers : Bool → List Bool → List Version → List ℕ → Type 0
AreInstallers before classes vs installers = (installers ≡ turned before classes vs) ⊎ ((installers ≡ []) × ((c : Bool) → Contains classes c → c ≡ before))

-- the marks of the places up to one that are among some
abbrev pub AreMarks : List ℕ → ℕ → List ℕ → Type 0
AreMarks places most marks = marks ≡ marked 0 1 16 places (replicate (most + 1) 0)

-- where versions of these classes turn
pub record AreTurns (before : Bool) (classes : List Bool) (vs : List Version) (t : Turns) : Type 0 where
  pub installers : AreInstallers before classes vs t.installers.items
  pub most : (k : ℕ) → get_or t.installers.items k 0 ≤ t.most
  pub marks : IfSome t.marks (λ row. AreMarks t.installers.items t.most row.items)

-- where a row turns by a test, against what it answers at first
abbrev pub TurnsBy : (State → Bool) → State → List Version → Turns → Type 0
TurnsBy f before vs t = AreTurns false (asked f before (states vs)) vs t

-- where a row turns by what a statement matches
abbrev pub TurnsFor : Statement → Row → Chain → Turns → Type 0
TurnsFor s row c t = TurnsBy (matches s row) c.before c.items t

-- what is kept is right for each test that answers so
abbrev pub AreKept : Bool → State → List State → List Version → List Kept → Type 0
AreKept exact before others vs kept = (item : Kept) → Contains kept item → (f : State → Bool) → Heeds exact f → asked f before others ≡ item.answers.items → TurnsBy f before vs item.turns
