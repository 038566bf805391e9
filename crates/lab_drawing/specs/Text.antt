-- Texts with markup escaped; words for a state and for the outcome of a transaction.
use Rattle.std.specs.Prelude.{ℕ, ◌==◌, Bool, not, ◌&&◌, cond, Option, Some, None, List, [], ◌∷◌, flat_map, codes}
use Rattle.std.specs.Fmt.{signed_decimal}
use Rattle.lab_table.specs.Table.{State}
use Rattle.lab_history.specs.declared.transaction.Outcome.{Outcome}
use Rattle.lab_history.specs.declared.transaction.Outcome.TheVariants.{Committed, Aborted}

-- a row's state
abbrev pub state_text : State → List ℕ
state_text None = codes "absent"
state_text (Some value) = signed_decimal value

-- how a transaction ended
abbrev pub outcome_name : Option Outcome → List ℕ
outcome_name None = codes "isn't there"
outcome_name (Some Committed) = codes "committed"
outcome_name (Some Aborted) = codes "aborted"

-- a byte where no byte may be markup: `<`, `>`, `&` and `"` by their names
abbrev pub escaped_byte : ℕ → List ℕ
escaped_byte b = cond (b == 60) (codes "&lt;") (cond (b == 62) (codes "&gt;") (cond (b == 38) (codes "&amp;") (cond (b == 34) (codes "&quot;") (b ∷ []))))

-- a text where no byte may be markup
abbrev pub escaped : List ℕ → List ℕ
escaped text = flat_map escaped_byte text

-- whether a byte can begin no markup, and end none
abbrev pub is_plain : ℕ → Bool
is_plain b = not (b == 60) && (not (b == 62) && not (b == 34))
