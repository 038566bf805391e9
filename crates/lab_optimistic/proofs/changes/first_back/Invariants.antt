use Rattle.std.proofs.Common.{◌≡◌, length, reverse}
use Rattle.lab_engine.proofs.Common.{option_or, get}
use Rattle.lab_optimistic.specs.Changes.{first_change, has_read, has_read_either, state_of}
use Rattle.lab_optimistic.proofs.changes.first_back.Given as goal

-- what is left, else what was found so far, answers as all, and it is known whether what is left leaves the row as it was read
abbrev pub invariant-loop-last : goal.invariant-loop-last
invariant-loop-last l = record {
  first : option_or (first_change (has_read_either l.asker l.row) (get l.asker.setup.now l.row) l.asker.running.now.before (reverse l.left)) l.first
      ≡ first_change (has_read_either l.asker l.row) (get l.asker.setup.now l.row) l.asker.running.now.before (reverse l.installed);
  after_is : l.after_it ≡ has_read l.asker l.row (state_of (get l.asker.setup.now l.row) (reverse l.left));
}

abbrev pub decreases-loop-last : goal.decreases-loop-last
decreases-loop-last l = length l.left
