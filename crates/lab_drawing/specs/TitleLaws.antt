-- What is true of the title of a drawn cycle.
use Rattle.std.specs.Prelude.{◌≡◌, ℕ, List, ◌++◌, codes}
use Rattle.lab_history.specs.History.{History}
use Rattle.lab_deps.specs.declared.edge.Edge.{Edge}
use Rattle.lab_judge.specs.Phenomena.{IsG0, IsG1c, IsGSingle, IsG2Item, IsG2}
use Rattle.lab_drawing.specs.Titles.{full_name}
use Rattle.lab_reports.specs.declared.phenomenon.Phenomenon.{Phenomenon}
use Rattle.lab_reports.specs.declared.phenomenon.Phenomenon.TheVariants.{G0, G1a, G1b, G1c, GSingle, G2Item, G2}

-- a cycle is one of this phenomenon
abbrev pub HasPhenomenon : History → List Edge → Phenomenon → Type 0
HasPhenomenon h walk G0 = IsG0 h walk
HasPhenomenon h walk G1a = ⊥
HasPhenomenon h walk G1b = ⊥
HasPhenomenon h walk G1c = IsG1c h walk
HasPhenomenon h walk GSingle = IsGSingle h walk
HasPhenomenon h walk G2Item = IsG2Item h walk
HasPhenomenon h walk G2 = IsG2 h walk

-- a title says that a history isn't serializable, and names a phenomenon that the walk is one of, with the walk's nicknames
pub record TellsWalk (h : History) (walk : List Edge) (title : List ℕ) : Type 0 where
  pub phenomenon : Phenomenon
  pub there : HasPhenomenon h walk phenomenon
  pub title_is : title ≡ codes "Not serializable: " ++ full_name h phenomenon walk
