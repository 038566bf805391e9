use Rattle.lab_statement.proofs.StatementRead.{spells_in, in_spells}
use Rattle.lab_statement.proofs.laws.statement_is_read_from_its_text.Goals as goal

pub returns : goal.returns
returns c = λ text s. (in_spells text s, spells_in text s)
