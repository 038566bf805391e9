use Rattle.lab_history.specs.HistoryRules.{has_installer}
use Rattle.lab_history_file.proofs.WrittenLists.{entries_pass}
use Rattle.lab_history_file.proofs.writing.entries.put_installed.Goals as goal

pub put_list-requires : goal.put_list-requires
put_list-requires c = entries_pass has_installer _ _ c.entries.ensures c.requires
