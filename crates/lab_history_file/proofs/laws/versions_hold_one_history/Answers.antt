use Rattle.std.proofs.Common.{sym, ◌∙◌}
use Rattle.lab_history_file.proofs.Lifted.{lifted_file, lifted_read}
use Rattle.lab_history_file.proofs.laws.versions_hold_one_history.Goals as goal

pub returns : goal.returns
returns c = record { file = lifted_file; read = λ d h one read. lifted_read d h one read ∙ sym read }
