use Rattle.lab_history_file.proofs.TableNames.{name_is_utf8}
use Rattle.lab_reports.proofs.to_json.table_json.Goals as goal

pub text_json-requires : goal.text_json-requires
text_json-requires c = name_is_utf8 c.as_bytes.result.now c.as_bytes.ensures.name
