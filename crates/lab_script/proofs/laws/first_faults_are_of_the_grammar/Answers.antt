use Rattle.lab_script.proofs.{LineFaults.{no_commands_fault, no_setup_fault}, Common.{no_statement_fault}}
use Rattle.lab_script.proofs.laws.first_faults_are_of_the_grammar.Goals as goal

pub returns : goal.returns
returns c = record {
  commands = no_commands_fault;
  setup = no_setup_fault;
  statement = no_statement_fault;
}
