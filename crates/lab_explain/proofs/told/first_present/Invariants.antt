use Rattle.std.proofs.Common.{◌≡◌, drop}
use Rattle.lab_explain.specs.Told.{first_present}
use Rattle.lab_explain.proofs.told.first_present.Given as goal

abbrev pub invariant-loop-phenomenon : goal.invariant-loop-phenomenon
invariant-loop-phenomenon l = first_present l.report (drop l.phenomenon-index l.among) ≡ first_present l.report l.among
