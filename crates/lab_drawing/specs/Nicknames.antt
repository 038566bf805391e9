-- Nicknames of cycles: lost update, read skew, non-repeatable read, write skew, long fork, read-only anomaly and phantom. A
-- name for two transactions is given to a cycle if two neighbours in it have the anomaly. No name depends on how
-- transactions are numbered.
--
-- Origin: see `Pairs`, `Forks` and `Readers`, which define the anomalies; their names for cycles are this project's
-- profile.
use Rattle.std.specs.Prelude.{ℕ, Bool, List, [], ◌∷◌, ◌++◌, filter, flat_map, codes}
use Rattle.lab_history.specs.History.{History}
use Rattle.lab_deps.specs.declared.edge.Edge.{Edge}
use Rattle.lab_drawing.specs.Forks.{is_long_fork, is_phantom}
use Rattle.lab_drawing.specs.Pairs.{has_pair}
use Rattle.lab_drawing.specs.Readers.{is_read_only_anomaly}
use Rattle.lab_drawing.specs.declared.nicknames.Nickname.{Nickname}
use Rattle.lab_drawing.specs.declared.pairs.Pair.TheVariants as pair
use Rattle.lab_drawing.specs.declared.nicknames.Nickname.TheVariants.{LostUpdate, ReadSkew, FuzzyRead, WriteSkew, LongFork, ReadOnlyAnomaly, Phantom}

-- all of them, in the order in which they are said
abbrev pub all_nicknames : List Nickname
all_nicknames = LostUpdate ∷ ReadSkew ∷ FuzzyRead ∷ WriteSkew ∷ LongFork ∷ ReadOnlyAnomaly ∷ Phantom ∷ []

-- a nickname in words
abbrev pub nickname_name : Nickname → List ℕ
nickname_name LostUpdate = codes "lost update"
nickname_name ReadSkew = codes "read skew"
nickname_name FuzzyRead = codes "non-repeatable read"
nickname_name WriteSkew = codes "write skew"
nickname_name LongFork = codes "long fork"
nickname_name ReadOnlyAnomaly = codes "read-only anomaly"
nickname_name Phantom = codes "phantom"

-- whether a cycle has the form that a nickname is for
abbrev pub has_form : History → List Edge → Nickname → Bool
has_form h walk LostUpdate = has_pair h pair.LostUpdate walk
has_form h walk ReadSkew = has_pair h pair.ReadSkew walk
has_form h walk FuzzyRead = has_pair h pair.FuzzyRead walk
has_form h walk WriteSkew = has_pair h pair.WriteSkew walk
has_form h walk LongFork = is_long_fork h walk
has_form h walk ReadOnlyAnomaly = is_read_only_anomaly h walk
has_form h walk Phantom = is_phantom h walk

-- the nicknames of a cycle: those whose form it has, in their order
abbrev pub nicknames_of : History → List Edge → List Nickname
nicknames_of h walk = filter (has_form h walk) all_nicknames

-- a nickname behind another
abbrev pub next_name : Nickname → List ℕ
next_name n = codes ", " ++ nickname_name n

-- nicknames in parentheses, with a comma and a blank between two; nothing where there are none
abbrev pub in_parentheses : List Nickname → List ℕ
in_parentheses [] = []
in_parentheses (n ∷ ns) = codes " (" ++ nickname_name n ++ flat_map next_name ns ++ codes ")"
