use Rattle.lab_judge.proofs.findings.reads.find_intermediate_read.Goals as goal

pub returns-in-None : goal.returns-in-None
returns-in-None c = c.first_intermediate_read.ensures.none c.in-None.is
