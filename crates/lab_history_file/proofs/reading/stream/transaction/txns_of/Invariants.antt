use Rattle.std.proofs.Common.{◌≡◌, ◌≤◌, List, [], ◌∷◌, length}
use Rattle.json.specs.Token.{Token}
use Rattle.lab_history_file.specs.{Behind.{AllStand, Stands}, FileOf.{IsTransaction}, Spelled.{PassesEach}}
use Rattle.lab_history_file.proofs.reading.stream.transaction.txns_of.Given as goal

abbrev pub invariant-txns : goal.invariant-txns
invariant-txns l =
    (inside : List Token) × (l.fn.cursor ≡ Token.begin_array ∷ inside) × PassesEach 6 (IsTransaction l.version) inside l.cursor l.txns
    × AllStand Stands [] l.txns × (l.count ≡ length l.txns) × (l.count ≤ 1000)

abbrev pub decreases-txns : goal.decreases-txns
decreases-txns l = length l.cursor
