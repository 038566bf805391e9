use Rattle.lab_history_file.proofs.{FileIsRead.{file_is_read}, ReadIsFile.{read_is_file}}
use Rattle.lab_history_file.proofs.laws.history_is_read_from_its_file.Goals as goal

pub returns : goal.returns
returns c = λ d h. (read_is_file d h, λ is. file_is_read is.0 d h is.1)
