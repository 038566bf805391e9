use Rattle.std.proofs.Common.{◌∙◌, sym}
use Rattle.lab_table.proofs.Putting.{replaced_at, inserted_at}
use Rattle.lab_table.proofs.by_row.put_entry.Goals as goal

pub returns-then-stands_at-clause-ok : goal.returns-then-stands_at-clause-ok
returns-then-stands_at-clause-ok g c =
    replaced_at c.args.row c.args.value c.args.entries.now.items c.deref.result.now c.deref-2.result.now c.place_of-place.result
    c.deref.ensures.value c.deref-2.ensures.value c.place_of-place.ensures.value (sym c.stands_at.ensures ∙ c.if-stands_at.true)

pub returns-in_ok-insert-clause-ok : goal.returns-in_ok-insert-clause-ok
returns-in_ok-insert-clause-ok g c =
    c.in_ok-insert.ensures.items
    ∙ inserted_at c.args.row c.args.value c.args.entries.now.items c.deref.result.now c.deref-2.result.now c.place_of-place.result
    c.deref.ensures.value c.deref-2.ensures.value c.place_of-place.ensures.value (sym c.stands_at.ensures ∙ c.if-stands_at.false)
