use Rattle.std.proofs.Common.{refl}
use Rattle.lab_judge.proofs.findings.find_nothing.Goals as goal

pub returns-clause-walks : goal.returns-clause-walks
returns-clause-walks c = λ h. record { seven = refl; g0 = tt; g1c = tt; g_single = tt; g2_item = tt; g2 = tt }
