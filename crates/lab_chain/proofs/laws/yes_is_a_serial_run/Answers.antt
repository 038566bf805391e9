use Rattle.lab_chain.proofs.SerialRuns.{serial_in_parts}
use Rattle.lab_chain.proofs.laws.yes_is_a_serial_run.Goals as goal

pub returns : goal.returns
returns c = λ ps some all clear. serial_in_parts ps some all clear
