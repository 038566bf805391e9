use Rattle.lab_statement.proofs.Common.{◌≡◌, drop, tokens_read}
use Rattle.lab_statement.proofs.parser.Parser.expect_all.Given as goal

abbrev pub invariant-loop-token : goal.invariant-loop-token
invariant-loop-token l = tokens_read (drop l.token-index l.tokens) l.self ≡ tokens_read l.tokens l.fn.self
