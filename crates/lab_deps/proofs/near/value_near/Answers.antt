use Rattle.std.{proofs.{Common.{◌∙◌, refl, ap, sym, length}, lemmas.{Bool.{ltb-true}, Option.{slice_get_read}}}, specs.FinMap.{find}}
use Rattle.lab_table.{specs.Row.{row_cmp}, proofs.Maps.{tested_same}}
use Rattle.lab_deps.proofs.NearValues.{at_entry}
use Rattle.lab_deps.proofs.near.value_near.Goals as goal

pub returns-then-eq : goal.returns-then-eq
returns-then-eq g c =
    let entry = c.in-Some.entry.now in
    sym (ap (λ r. find row_cmp r c.args.entries.now) (tested_same c.args.row entry.0 (sym c.eq.ensures ∙ c.if-eq.true))
    ∙ at_entry c.args.entries.now c.args.near entry c.requires
    (slice_get_read c.args.entries.now (length c.args.entries.now) c.args.near entry refl (ltb-true _ _ (sym c.in-Some.ensures.lookup.0)) c.in-Some.ensures.lookup.1))
