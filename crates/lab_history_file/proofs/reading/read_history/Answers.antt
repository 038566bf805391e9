use Rattle.std.proofs.Common.{rules}
use Rattle.lab_history_file.proofs.TextFaults.{what_is_told_is_first}
use Rattle.lab_history_file.proofs.reading.read_history.Goals as goal

pub returns-clause-fault : goal.returns-clause-fault
returns-clause-fault c = what_is_told_is_first c.args.bytes.now (search rules) c.history_in_file.result c.history_in_file.ensures
