use Rattle.std.proofs.Common.{◌≡◌, drop}
use Rattle.lab_reports.specs.Requirements.{first_required}
use Rattle.lab_reports.proofs.requirement.first_required.Given as goal

abbrev pub invariant-loop-requirement : goal.invariant-loop-requirement
invariant-loop-requirement l = first_required l.name (drop l.requirement-index l.among) ≡ first_required l.name l.among
