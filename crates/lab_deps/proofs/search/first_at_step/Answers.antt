use Rattle.std.{proofs.{Common.{◌≡◌, true, Some, None, sym, ap, ◌∙◌, subst, arith}, lemmas.Option.{none-some, same_Some, slice_get-get_or}}, specs.Prelude.{slice_get}}
use Rattle.lab_table.specs.Row.{Row}
use Rattle.lab_deps.{specs.{Broken.{is_broken}, FirstOf.{IsLeastRow}, declared.kind.OpFault.{OpFault}}, proofs.{Searches.{one_more, none_here, first_here}, search.first_at_step.Goals.{in-Some+in_default-broken_row, in_default}}}
use Rattle.lab_deps.proofs.search.first_at_step.Goals as goal

pub returns-in-Some-broken_row : goal.returns-in-Some-broken_row
returns-in-Some-broken_row c =
    let h = c.args.history.now in
    let s = c.args.step.now in
    first_here h c.args.kinds.now s.txn s.number s.op.now c.requires.there c.loop-place.place c.in-Some.kind c.in-Some-broken_row.row c.loop-place.invariant
    (slice_get-get_or c.args.kinds.now c.loop-place.place None c.loop-place-test.true ∙ ap Some c.in-Some.is)
    (subst (IsLeastRow (λ row. is_broken c.in-Some.kind h s.txn s.number s.op.now row ≡ true)) c.in-Some-broken_row.is c.broken_row.ensures)

pub loop-place-preserved : goal.loop-place-preserved
loop-place-preserved c =
    let h = c.args.history.now in
    let kinds = c.args.kinds.now in
    let s = c.args.step.now in
    let i = c.loop-place.place in
    let read = slice_get-get_or kinds i None c.loop-place-test.true in
    let none : (kind : OpFault) (row : Row) → slice_get kinds i ≡ Some (Some kind) → is_broken kind h s.txn s.number s.op.now row ≡ true → ⊥ =
    elim c.match-kind.branch [
      | in-Some+in_default-broken_row w ↦ λ kind row g t.
          let same : kind ≡ w.in-Some.kind = same_Some kind w.in-Some.kind (same_Some (Some kind) (Some w.in-Some.kind) (sym g ∙ read ∙ ap Some w.in-Some.is)) in
          subst (IsLeastRow (λ row. is_broken w.in-Some.kind h s.txn s.number s.op.now row ≡ true)) w.in_default-broken_row.is w.broken_row.ensures row
          (subst (λ x. is_broken x h s.txn s.number s.op.now row ≡ true) same t)
      | in_default w ↦ λ kind row g t. none-some kind (same_Some None (Some kind) (sym (read ∙ ap Some w.in_default.is) ∙ g))
    ] in
    one_more h kinds s.txn s.number s.op.now i c.loop-place.invariant none

pub returns : goal.returns
returns c = none_here c.args.history.now c.args.kinds.now c.args.step.now.txn c.args.step.now.number c.args.step.now.op.now c.requires.there
    (λ q kind row less g t. c.loop-place.invariant q kind row (omega (arith, less, c.loop-place-test.false)) g t)
