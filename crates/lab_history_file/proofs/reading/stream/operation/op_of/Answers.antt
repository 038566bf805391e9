use Rattle.std.proofs.Common.{refl}
use Rattle.lab_history_file.proofs.OperationFields.{op_ended}
use Rattle.lab_history_file.proofs.reading.stream.operation.op_of.Goals as goal

pub returns : goal.returns
returns c =
    op_ended c.args.version c.args.cursor.now c.read_object.new.cursor _ c.read_object.new.fields c.into_op.result c.ok_or.result c.in_ok-read_object.ensures refl refl refl refl c.into_op.ensures c.ok_or.ensures.ok_part
