use Rattle.lab_script.proofs.Common.{◌≡◌, drop, statement_tables, with_named, with_tokens}
use Rattle.lab_script.proofs.tables.add_tokens.Given as goal

abbrev pub invariant-loop-token : goal.invariant-loop-token
invariant-loop-token l = with_named l.tables.names (statement_tables l.behind (drop l.token-index l.tokens)) ≡ with_tokens l.fn.tables.names l.fn.tokens
