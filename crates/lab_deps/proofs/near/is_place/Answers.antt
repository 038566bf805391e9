use Rattle.std.proofs.{Common.{◌≤◌, ◌-◌, length, sym, ap, ◌∙◌, arith}, lemmas.List.{get_or_default}}
use Rattle.lab_table.specs.Running.{comes_after}
use Rattle.lab_deps.proofs.{NearPlaces.{place_is}, near.is_place.Goals.{else-place-entries-2-via-then-place-entries-2+else-follows, else-place-entries-2-via-else-place-entries-2}}
use Rattle.lab_deps.proofs.near.is_place.Goals as goal

pub returns-else-place-eq0 : goal.returns-else-place-eq0
returns-else-place-eq0 g c after =
    let es = c.args.entries.now in
    let i = c.args.place in
    let row = c.args.row in
    let within : i ≤ length es = omega (arith, c.if-place-entries.false) in
    place_is row es c.requires i within
    (λ d some. ap (comes_after row) (get_or_default es (i - 1) d c.index-entries-place-else-place-eq0.result (omega (arith, some, within))) ∙ (sym c.follows-else-place-eq0.ensures ∙ after))
    (elim c.else-place-entries-2.branch [
      | else-place-entries-2-via-then-place-entries-2+else-follows w ↦ λ d l. ap (comes_after row) (get_or_default es i d w.index-entries-place.result l) ∙ (sym w.follows.ensures ∙ w.if-follows.false)
      | else-place-entries-2-via-else-place-entries-2 w ↦ λ d l. absurd (omega (arith, l, w.if-place-entries-2.false))
    ])
