use Rattle.lab_history_file.proofs.PlainWrites.{writes_stand}
use Rattle.lab_history_file.proofs.writing.entries.put_writes.Goals as goal

pub returns-clause-file : goal.returns-clause-file
returns-clause-file c = writes_stand c.put_list.result c.entries.result.now c.args.writes.now c.entries.ensures c.put_list.ensures.file
