use Rattle.std.proofs.Common.{◌≡◌, ◌++◌, drop}
use Rattle.lab_history.specs.VersionName.{new_states}
use Rattle.lab_compare.proofs.commits.put_states.Given as goal

abbrev pub invariant-loop-row : goal.invariant-loop-row
invariant-loop-row l = l.installs.items ++ new_states (drop l.row-index l.states) ≡ l.initial.installs.items ++ new_states l.states
