use Rattle.std.{proofs.{Common.{◌∙◌, refl, ap, sym, length, Some}, lemmas.{Bool.{ltb-true}, Option.{slice_get_read}}}, specs.FinMap.{find}}
use Rattle.lab_table.{specs.Row.{row_cmp}, proofs.Maps.{tested_same}}
use Rattle.lab_deps.proofs.NearValues.{at_entry}
use Rattle.lab_deps.proofs.fine.has_at.Goals as goal

pub returns-then-eq : goal.returns-then-eq
returns-then-eq c = λ t.
    let known = c.args.known.now in
    let other = c.in-Some.other.now in
    ap (λ r. find row_cmp r known) (sym (tested_same other.0 c.args.entry.now.0 (sym c.eq.ensures ∙ c.if-eq.true)))
    ∙ at_entry known c.args.near other c.requires (slice_get_read known (length known) c.args.near other refl (ltb-true _ _ (sym c.in-Some.ensures.lookup.0)) c.in-Some.ensures.lookup.1)
    ∙ ap Some (c.is_one.ensures.0 t)
