use Rattle.std.proofs.{Common.{arith}, lemmas.Grind.{common_steps}}
use Rattle.lab_history_file.proofs.WrittenTexts.{name_escape}
use Rattle.lab_history_file.proofs.writing.entries.put_key.Goals as goal

pub returns-clause-text : goal.returns-clause-text
returns-clause-text c = grind (arith, common_steps, name_escape c.as_bytes.result.now c.as_bytes.ensures.name)
