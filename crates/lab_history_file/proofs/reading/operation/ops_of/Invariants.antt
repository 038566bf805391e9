use Rattle.std.proofs.Common.{◌≡◌, [], length}
use Rattle.serde_json.specs.View.{items_view}
use Rattle.lab_history_file.{specs.{Entries.{items_from}, Format.{op_behind}}, proofs.ItemsRead.{read_on}}
use Rattle.lab_history_file.proofs.reading.operation.ops_of.Given as goal

abbrev pub invariant-loop-index : goal.invariant-loop-index
invariant-loop-index l =
    let read = op_behind l.version l.txn l.number in
    (length l.ops.items ≡ l.index) × (read_on read l.ops.items l.index l.items ≡ items_from read [] 0 (items_view l.items))
