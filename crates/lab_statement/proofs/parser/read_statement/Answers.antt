use Rattle.lab_statement.proofs.ReadStatements.{whole_takes}
use Rattle.lab_statement.proofs.parser.read_statement.Goals as goal

pub returns-in-Ok-clause-found : goal.returns-in-Ok-clause-found
returns-in-Ok-clause-found c = whole_takes c.args.tokens.now _ c.in-Ok.ensures
