use Rattle.std.proofs.Common.{rules}
use Rattle.serde_json.specs.View.{view}
use Rattle.lab_history_file.{specs.{Entries.{entry_in}, Format.{at_key}}, proofs.ListsRead.{all_sorted}}
use Rattle.lab_history_file.proofs.reading.lists.entries_at.Goals as goal

pub returns-clause-rises : goal.returns-clause-rises
returns-clause-rises g c =
    all_sorted (entry_in g.E.Entry.PARTS g.E.Entry.read c.args.version c.args.list) c.args.list (at_key c.args.key.now (view c.args.json.now)) c.in_ok-members.members.now c.loop-index.entries.items
    c.loop-index.index (search rules) c.loop-index.invariant.1
