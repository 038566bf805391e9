use Rattle.std.proofs.Common.{◌≡◌, drop}
use Rattle.lab_history.specs.FirstPartsFault.{installed_checked}
use Rattle.lab_history.proofs.checking.check_installed.Given as goal

abbrev pub invariant-loop-index : goal.invariant-loop-index
invariant-loop-index l = installed_checked l.index (drop l.index l.entries) ≡ installed_checked 0 l.entries
