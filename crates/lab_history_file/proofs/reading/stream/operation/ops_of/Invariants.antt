use Rattle.std.proofs.Common.{◌≡◌, List, ◌∷◌, length}
use Rattle.json.specs.Token.{Token}
use Rattle.lab_history_file.specs.{FileOf.{IsOperation}, Spelled.{PassesEach}}
use Rattle.lab_history_file.proofs.reading.stream.operation.ops_of.Given as goal

abbrev pub invariant-ops : goal.invariant-ops
invariant-ops l = (inside : List Token) × (l.fn.cursor ≡ Token.begin_array ∷ inside) × PassesEach 4 (IsOperation l.version) inside l.cursor l.ops.items

abbrev pub decreases-ops : goal.decreases-ops
decreases-ops l = length l.cursor
