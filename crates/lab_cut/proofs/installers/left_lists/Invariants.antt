use Rattle.std.proofs.Common.{◌≡◌, ◌++◌, drop}
use Rattle.lab_cut.specs.{Cut.{left_list}, Kept.{kept_in}, MadeEntries.{made_entries}}
use Rattle.lab_cut.proofs.installers.left_lists.Given as goal

abbrev pub invariant-loop-row : goal.invariant-loop-row
invariant-loop-row l = l.left.items ++ made_entries (left_list (kept_in l.moves) l.history) (drop l.row-index l.entries) ≡ made_entries (left_list (kept_in l.moves) l.history) l.entries
