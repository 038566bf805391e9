use Rattle.lab_reports.proofs.RequiredLevels.{first_is_not, second_is_not, between_is_not, third_is_not}
use Rattle.lab_reports.proofs.laws.unmet_levels_are_not.Goals as goal

pub returns : goal.returns
returns c = record { pl1 = first_is_not; pl2 = second_is_not; pl299 = between_is_not; pl3 = third_is_not }
