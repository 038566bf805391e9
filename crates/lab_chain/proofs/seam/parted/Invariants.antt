use Rattle.std.proofs.Common.{◌≡◌, drop}
use Rattle.lab_chain.specs.Difference.{parted}
use Rattle.lab_chain.proofs.seam.parted.Given as goal

abbrev pub invariant-loop-entry : goal.invariant-loop-entry
invariant-loop-entry l = parted (drop l.entry-index l.entries) l.rest ≡ parted l.entries l.others
