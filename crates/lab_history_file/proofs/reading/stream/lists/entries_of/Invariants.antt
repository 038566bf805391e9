use Rattle.std.proofs.Common.{◌≡◌, List, [], ◌∷◌, length}
use Rattle.json.specs.Token.{Token}
use Rattle.lab_history_file.{specs.{Behind.{AllStand}, Entries.{last_row}, Spelled.{PassesEach}}, proofs.ListsRead.{Follows}}
use Rattle.lab_history_file.proofs.reading.stream.lists.entries_of.Given as goal

abbrev pub invariant-entries : goal.invariant-entries
invariant-entries g l =
    (inside : List Token) × (l.fn.cursor ≡ Token.begin_array ∷ inside) × PassesEach 2 (g.M.Member.stands l.version) inside l.cursor l.entries.items
    × (l.before ≡ last_row l.entries.items) × AllStand Follows [] l.entries.items

abbrev pub decreases-entries : goal.decreases-entries
decreases-entries g l = length l.cursor
