use Rattle.std.proofs.{Common.{length, refl}, lemmas.Option.{slice_get_read}}
use Rattle.lab_table.proofs.Members.{member_at}
use Rattle.lab_deps.proofs.kept.kept_by.Goals as goal

pub returns-then-is_by : goal.returns-then-is_by
returns-then-is_by c =
    let xs = c.args.kept.now in
    let item = c.item-item.result in
    (member_at xs c.loop-item.item-index item (slice_get_read xs (length xs) c.loop-item.item-index item refl c.loop-item-test.true c.item-item.is), c.is_by.ensures c.if-is_by.true)
