use Rattle.lab_history.specs.HistoryRules.{is_listed}
use Rattle.lab_history_file.proofs.WrittenLists.{entries_pass}
use Rattle.lab_history_file.proofs.writing.entries.put_view.Goals as goal

pub put_list-requires : goal.put_list-requires
put_list-requires c = entries_pass is_listed _ _ c.entries.ensures c.requires
