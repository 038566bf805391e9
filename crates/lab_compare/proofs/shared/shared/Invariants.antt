use Rattle.std.specs.List.{AllWithin}
use Rattle.lab_compare.specs.Shared.{BeginSame}
use Rattle.lab_compare.proofs.shared.shared.Given as goal

abbrev pub invariant-loop-other : goal.invariant-loop-other
invariant-loop-other l = AllWithin (BeginSame l.count l.first) l.others 0 l.other-index
