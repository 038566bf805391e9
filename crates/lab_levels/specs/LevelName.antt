-- The levels in the order in which they are listed, and the name of each one's engine.
use Rattle.std.specs.Prelude.{ℕ, Option, List, [], ◌∷◌, codes}
use Rattle.std.specs.List.{find}
use Rattle.std.specs.Str.{bytes_eq}
use Rattle.lab_engine.specs.declared.event.Level.{Level}
use Rattle.lab_engine.specs.declared.event.Level.TheVariants as level

-- the levels, in the order in which they are told
abbrev pub all_levels : List Level
all_levels = level.Locking ∷ level.Committed ∷ level.Snapshot ∷ level.Optimistic ∷ []

-- the name of the engine of a level
abbrev pub level_name : Level → List ℕ
level_name level.Locking = codes "locking"
level_name level.Committed = codes "committed"
level_name level.Snapshot = codes "snapshot"
level_name level.Optimistic = codes "optimistic"

-- the first of some levels whose engine has this name
abbrev pub first_level : List ℕ → List Level → Option Level
first_level given among = find (λ level. bytes_eq (level_name level) given) among

-- the level of the engine of a name, if there is one
abbrev pub level_named : List ℕ → Option Level
level_named given = first_level given all_levels
