use Rattle.std.proofs.Common.{◌≡◌, List, ◌∷◌, length, Some}
use Rattle.json.specs.Token.{Token}
use Rattle.lab_history_file.specs.{Entries.{txn_in_number}, Spelled.{PassesEach}}
use Rattle.lab_history_file.proofs.reading.stream.entries.installers_of.Given as goal

abbrev pub invariant-numbers : goal.invariant-numbers
invariant-numbers l =
    (inside : List Token) × (l.fn.cursor ≡ Token.begin_array ∷ inside) × PassesEach 0 (λ d txn. txn_in_number d ≡ Some txn) inside l.cursor l.found.items

abbrev pub decreases-numbers : goal.decreases-numbers
decreases-numbers l = length l.cursor
