use Rattle.lab_script.proofs.Common.{◌≡◌, drop, with_all}
use Rattle.lab_script.proofs.tables.add_all.Given as goal

abbrev pub invariant-loop-item : goal.invariant-loop-item
invariant-loop-item g l = with_all g.T.NamesTable.named l.tables.names (drop l.item-index l.items) ≡ with_all g.T.NamesTable.named l.fn.tables.names l.fn.items
