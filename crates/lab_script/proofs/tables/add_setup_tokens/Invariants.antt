use Rattle.lab_script.{proofs.Common.{◌≡◌, drop, with_named, with_setup_tokens}, specs.PassedTables.{setup_tables}}
use Rattle.lab_script.proofs.tables.add_setup_tokens.Given as goal

abbrev pub invariant-loop-token : goal.invariant-loop-token
invariant-loop-token l = with_named l.tables.names (setup_tables l.named (drop l.token-index l.tokens)) ≡ with_setup_tokens l.fn.tables.names l.fn.tokens
