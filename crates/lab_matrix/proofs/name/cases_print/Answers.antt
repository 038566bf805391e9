use Rattle.lab_matrix.proofs.CasesPrint.{case_prints}
use Rattle.lab_matrix.proofs.name.cases_print.Goals as goal

pub returns : goal.returns
returns c = case_prints
