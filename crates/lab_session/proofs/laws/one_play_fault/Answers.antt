use Rattle.lab_session.proofs.OnePlay.{no_fault, one_fault}
use Rattle.lab_session.proofs.laws.one_play_fault.Goals as goal

pub returns-clause-recorded : goal.returns-clause-recorded
returns-clause-recorded c = λ level setup lines log h fault play recording whole told faulty. no_fault level setup lines log h play recording whole fault told faulty

pub returns-clause-refused : goal.returns-clause-refused
returns-clause-refused c = λ level setup lines fault other told again h k. one_fault level setup lines fault other told again h k
