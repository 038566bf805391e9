use Rattle.lab_history_file.proofs.WrittenMembers.{version_stands}
use Rattle.lab_history_file.proofs.writing.entries.Tuple2RowNameVersionNameJsonText.put.Goals as goal

pub returns-clause-file : goal.returns-clause-file
returns-clause-file c = version_stands c.args.self.now c.in-Of.txn c.in-Of.op c.in-Of.is c.requires c.in_ok-put_key.ensures.read c.in_ok-put_part.ensures.read
