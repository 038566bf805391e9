use Rattle.std.proofs.Common.{◌≡◌, drop}
use Rattle.lab_reports.specs.Shortfall.{is_unjudged, first_found}
use Rattle.lab_reports.proofs.shortfall.first_unjudged.Given as goal

abbrev pub invariant-loop-phenomenon : goal.invariant-loop-phenomenon
invariant-loop-phenomenon l = first_found is_unjudged l.report (drop l.phenomenon-index l.among) ≡ first_found is_unjudged l.report l.among
