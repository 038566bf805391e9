use Rattle.std.{proofs.Common.{◌≡◌, ◌++◌, None, drop, length}, specs.Prelude.{replicate}}
use Rattle.lab_compare.specs.Commits.{counts_each, installs_each}
use Rattle.lab_compare.proofs.commits.put_each.Given as goal

abbrev pub invariant-loop-event : goal.invariant-loop-event
invariant-loop-event l = record {
  installs : l.installs.items ++ installs_each l.history l.active (drop l.event-index l.log) ≡ l.initial.installs.items ++ installs_each l.history (replicate 9 None) l.log;
  counts : l.counts.items ++ counts_each l.history l.active (length l.installs.items) (drop l.event-index l.log) ≡ counts_each l.history (replicate 9 None) (length l.initial.installs.items) l.log;
}
