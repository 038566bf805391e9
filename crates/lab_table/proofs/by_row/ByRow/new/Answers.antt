use Rattle.lab_table.proofs.Putting.{no_entry}
use Rattle.lab_table.proofs.by_row.ByRow.new.Goals as goal

pub returns : goal.returns
returns g c = no_entry c.new.result.items c.new.ensures.items
