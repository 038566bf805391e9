use Rattle.lab_reports.proofs.RequiredLevels.{met_is_so}
use Rattle.lab_reports.proofs.laws.met_requirements_are_kept.Goals as goal

pub returns : goal.returns
returns c = met_is_so
