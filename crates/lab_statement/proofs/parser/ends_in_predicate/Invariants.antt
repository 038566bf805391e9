use Rattle.lab_statement.proofs.Common.{◌≡◌, false, drop, in_predicate}
use Rattle.lab_statement.proofs.parser.ends_in_predicate.Given as goal

abbrev pub invariant-loop-token : goal.invariant-loop-token
invariant-loop-token l = in_predicate l.inside (drop l.token-index l.tokens) ≡ in_predicate false l.tokens
