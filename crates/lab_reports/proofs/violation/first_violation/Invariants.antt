use Rattle.std.proofs.Common.{◌≡◌, drop}
use Rattle.lab_reports.specs.Violations.{first_violation}
use Rattle.lab_reports.proofs.violation.first_violation.Given as goal

abbrev pub invariant-loop-violation : goal.invariant-loop-violation
invariant-loop-violation l = first_violation l.name (drop l.violation-index l.among) ≡ first_violation l.name l.among
