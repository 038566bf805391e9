use Rattle.std.proofs.Common.{◌∙◌}
use Rattle.lab_table.proofs.PaddedTexts.{lower_padded}
use Rattle.lab_table.proofs.table_name.lowered.Goals as goal

pub returns : goal.returns
returns c = c.make_ascii_lowercase.ensures.after ∙ lower_padded c.args.text.now c.copy_from_slice.new.self c.copy_from_slice.ensures.after
