use Rattle.std.proofs.Common.{length}
use Rattle.lab_hints.proofs.walk.Walk.end_term.Given as goal

abbrev pub decreases-loop-self : goal.decreases-loop-self
decreases-loop-self l = length l.self.opened.items
