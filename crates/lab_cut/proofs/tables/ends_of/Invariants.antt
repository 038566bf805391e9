use Rattle.std.proofs.Common.{◌≡◌, ◌++◌, drop}
use Rattle.lab_history.specs.VersionName.{new_states}
use Rattle.lab_cut.specs.{Cut.{new_end}, Kept.{kept_in}, MadeEntries.{made_entries}}
use Rattle.lab_cut.proofs.tables.ends_of.Given as goal

abbrev pub invariant-loop-row : goal.invariant-loop-row
invariant-loop-row l = new_states l.ends.items ++ made_entries (new_end (kept_in l.moves) l.history) (drop l.row-index l.entries) ≡ made_entries (new_end (kept_in l.moves) l.history) l.entries
