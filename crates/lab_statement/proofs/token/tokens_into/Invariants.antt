use Rattle.lab_statement.proofs.Common.{◌≡◌, ◌++◌, ◌+◌, length, tokens}
use Rattle.lab_statement.proofs.token.tokens_into.Given as goal

abbrev pub invariant-loop-first : goal.invariant-loop-first
invariant-loop-first l = l.found.items ++ tokens l.rest ≡ tokens l.fn.text

abbrev pub decreases-loop-first : goal.decreases-loop-first
decreases-loop-first l = length (tokens l.rest) + length l.rest
