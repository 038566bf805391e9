use Rattle.std.proofs.Common.{length}
use Rattle.lab_hints.proofs.token.tokens_of.Given as goal

abbrev pub decreases-loop-first : goal.decreases-loop-first
decreases-loop-first l = length l.rest
