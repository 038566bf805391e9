use Rattle.lab_history_file.proofs.MembersSpell.{installed_spelled}
use Rattle.lab_history_file.proofs.reading.stream.entries.InstallersMember.read.Goals as goal

pub returns : goal.returns
returns c =
    installed_spelled c.args.version c.in_ok-row.row c.args.cursor.now c.open_list.new.self c.row_of.new.cursor c.in_ok-open_list.ensures c.in_ok-row.ensures c.installers_of.new.cursor c.close_list.new.self c.in_ok-installers.installers c.in_ok-installers.ensures.stand c.in_ok-installers.ensures.some c.in_ok-close_list.ensures
