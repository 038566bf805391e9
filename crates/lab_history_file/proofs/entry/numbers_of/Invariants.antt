use Rattle.std.proofs.Common.{◌≡◌, []}
use Rattle.serde_json.specs.View.{items_view}
use Rattle.lab_history_file.{specs.Entries.{items_from, installer_in}, proofs.ItemsRead.{read_on}}
use Rattle.lab_history_file.proofs.entry.numbers_of.Given as goal

abbrev pub invariant-loop-place : goal.invariant-loop-place
invariant-loop-place l =
    let read = installer_in l.index l.part in
    read_on read l.found.items l.place l.numbers ≡ items_from read [] 0 (items_view l.numbers)
