use Rattle.lab_judge.proofs.Reports.{of_fault}
use Rattle.lab_judge.proofs.judging.judge_unsound.Goals as goal

pub returns : goal.returns
returns c = of_fault c.args.history.now c.args.fault.now c.requires.first c.in_ok-found.found.phenomena c.in_ok-found.found.level c.in_ok-found.ensures.found c.in_ok-found.ensures.walks
