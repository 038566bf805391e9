use Rattle.lab_engine.proofs.Common.{EngineRun, IsRetryChoice, past_of, subst}
use Rattle.lab_engine.proofs.journal.JournalEngine.retryable.Goals as goal

pub returns : goal.returns
returns g c = subst (λ (k : EngineRun). IsRetryChoice g.R.Rules.kind k.setup (past_of k.log) c.self.inside.retryable) c.self.view_is c.self.invariant.retryable
