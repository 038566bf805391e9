use Rattle.std.proofs.Common.{◌≡◌}
use Rattle.serde_json.specs.View.{view}
use Rattle.lab_history_file.{specs.{Format.{at_key}, Entries.{entry_in, last_row, placed_in, entries_in}}, proofs.ItemsRead.{read_on}}
use Rattle.lab_history_file.proofs.reading.lists.entries_at.Given as goal

abbrev pub invariant-loop-index : goal.invariant-loop-index
invariant-loop-index g l =
    let read = entry_in g.E.Entry.PARTS g.E.Entry.read l.version l.list in
    (l.before ≡ last_row l.entries.items) × (read_on (placed_in read l.list) l.entries.items l.index l.members ≡ entries_in read l.list (at_key l.key (view l.json)))
