use Rattle.std.proofs.Common.{refl}
use Rattle.lab_history_file.proofs.RootFields.{root_ended}
use Rattle.lab_history_file.proofs.reading.stream.parts_of.Goals as goal

pub returns : goal.returns
returns c =
    root_ended c.args.version c.args.cursor.now c.read_object.new.cursor _ c.read_object.new.fields c.into_parts.result c.ok_or.result c.in_ok-read_object.ensures refl refl refl refl refl refl c.into_parts.ensures.parts c.into_parts.ensures.said c.ok_or.ensures.ok_part
