-- How a page contains its title: escaped, in two places; all else is the same under each title that isn't empty. For
-- laws.
use Rattle.std.specs.Prelude.{◌≡◌, ◌≢◌, ℕ, List, ◌++◌, length}
use Rattle.lab_drawing.specs.Text.{escaped}

-- pages under titles have them escaped, in two places, and all else of them is the same under each title that isn't empty
abbrev pub HasTitlesEscaped : (List ℕ → List ℕ) → Type 0
HasTitlesEscaped page =
    (before between behind : List ℕ) × ((title : List ℕ) → length title ≢ 0 → page title ≡ before ++ (escaped title ++ (between ++ (escaped title ++ behind))))
