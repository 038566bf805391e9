-- The sessions, and a value for each.
use Rattle.std.specs.Prelude.{ℕ, zero, suc, Option, None, List, [], ◌∷◌, slice_get}

-- every session, by rising number
abbrev pub all_sessions : List ℕ
all_sessions = 1 ∷ 2 ∷ 3 ∷ 4 ∷ 5 ∷ 6 ∷ 7 ∷ 8 ∷ 9 ∷ []

-- the value of a session, of those of all sessions by rising number
abbrev pub of_session : {A : Type 0} → List A → ℕ → Option A
of_session values zero = None
of_session values (suc before) = slice_get values before
