use Rattle.std.proofs.Common.{arith}
use Rattle.lab_history_file.specs.FileOf.{IsValue}
use Rattle.lab_history_file.proofs.MembersSpell.{pair_spelled}
use Rattle.lab_history_file.proofs.reading.stream.entries.ValueMember.read.Goals as goal

pub returns : goal.returns
returns c =
    pair_spelled c.args.version c.in_ok-row.row c.args.cursor.now c.open_list.new.self c.row_of.new.cursor c.in_ok-open_list.ensures c.in_ok-row.ensures IsValue 0 c.value_of.new.cursor c.close_list.new.self c.in_ok-value.value (omega arith) c.in_ok-value.ensures c.in_ok-close_list.ensures
