use Rattle.lab_history_file.proofs.MembersSpell.{version_spelled}
use Rattle.lab_history_file.proofs.reading.stream.entries.VersionNameMember.read.Goals as goal

pub returns : goal.returns
returns c =
    version_spelled c.args.version c.in_ok-row.row c.args.cursor.now c.open_list.new.self c.row_of.new.cursor c.in_ok-open_list.ensures c.in_ok-row.ensures c.txn_no_of.new.cursor c.whole_of.new.cursor c.close_list.new.self c.in_ok-txn.txn c.in_ok-op.op c.in_ok-txn.ensures c.in_ok-op.ensures.whole c.in_ok-close_list.ensures
