use Rattle.lab_script.proofs.OneFault.{one_fault}
use Rattle.lab_statement.proofs.OneStatementFault.{one_statement_fault}
use Rattle.lab_script.proofs.laws.fault_unique.Goals as goal

pub returns : goal.returns
returns c = record {
  line = λ text n m kind other one another. (one_fault text n m kind other one another).0;
  kind = λ text n m kind other one another. (one_fault text n m kind other one another).1;
  statement_line = λ text n m kind other one first another again. (one_statement_fault text n m kind other one first another again).0;
  statement_kind = λ text n m kind other one first another again. (one_statement_fault text n m kind other one first another again).1;
}
