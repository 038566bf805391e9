use Rattle.std.proofs.Common.{rules}
use Rattle.lab_engine.proofs.journal.JournalEngine.is_active.Goals as goal

pub returns : goal.returns
returns g c = let is = c.is_active.ensures _ _ c.self.invariant.situation in search rules
