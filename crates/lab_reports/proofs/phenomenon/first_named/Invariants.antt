use Rattle.std.proofs.Common.{◌≡◌, drop}
use Rattle.lab_reports.specs.Phenomena.{first_named}
use Rattle.lab_reports.proofs.phenomenon.first_named.Given as goal

abbrev pub invariant-loop-phenomenon : goal.invariant-loop-phenomenon
invariant-loop-phenomenon l = first_named l.name (drop l.phenomenon-index l.among) ≡ first_named l.name l.among
