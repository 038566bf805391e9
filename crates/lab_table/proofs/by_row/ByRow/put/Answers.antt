use Rattle.lab_table.proofs.Putting.{put_sorted, put_map}
use Rattle.lab_table.proofs.by_row.ByRow.put.Goals as goal

pub invariant_of-self-2 : goal.invariant_of-self-2
invariant_of-self-2 g c = put_sorted c.args.row c.args.value c.self.inside.entries.items c.put_entry.new.entries.items c.self.invariant c.in_ok-put_entry.ensures.ok

pub returns-clause-ok : goal.returns-clause-ok
returns-clause-ok g c = put_map c.args.row c.args.value c.self.inside.entries.items c.put_entry.new.entries.items c.args.self.now c.self.invariant c.self.view_is c.in_ok-put_entry.ensures.ok
