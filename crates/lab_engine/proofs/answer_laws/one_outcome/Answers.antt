use Rattle.lab_engine.proofs.OneOutcome.{one_step, one_retry}
use Rattle.lab_engine.proofs.answer_laws.one_outcome.Goals as goal

pub returns-clause-step : goal.returns-clause-step
returns-clause-step c = λ level setup old new another session command one other h k. one_step level setup old new another session command one other h k

pub returns-clause-retry : goal.returns-clause-retry
returns-clause-retry c = λ level setup old new another session one other h k. one_retry level setup old new another session one other h k
