use Rattle.std.proofs.Common.{rules}
use Rattle.lab_engine.proofs.journal.JournalEngine.is_waiting.Goals as goal

pub returns : goal.returns
returns g c = let is = c.is_waiting.ensures _ _ c.self.invariant.situation in search rules
