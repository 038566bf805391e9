use Rattle.lab_engine.proofs.{Common.{ap, cons_option, each_row, entries_in, Kept, laid_over, matching_entries, matching_rows, Option, refl, Row, row_cmp, seen_of, Some, subst, sym, Version, with_row, without_row, [], ◌++◌, ◌∙◌, ◌≡◌, IsStrictlySortedBy, keys_of}, Overlaid.{walk_step, matching_initial, walked}}
use Rattle.lab_engine.proofs.reading.all_matching.Goals as goal

pub loop-row-preserved-in-Some-seen_by : goal.loop-row-preserved-in-Some-seen_by
loop-row-preserved-in-Some-seen_by c =
    let s = c.args.statement.now in
    let row = c.in-Some.row.now in
    let f : Row → Kept → Option Version = λ row kept. seen_of c.args.asker.now.session c.args.asker.now.sees_before kept in
    let found = c.loop-row.found.items in
    let left = c.loop-row.left.now in
    let seen : seen_of c.args.asker.now.session c.args.asker.now.sees_before c.in-Some.kept.now ≡ Some c.in-Some-seen_by.version = sym c.seen_by.ensures ∙ c.in-Some-seen_by.is in
    walk_step s found c.put_matching.new.found.items c.put_entry.new.found.items row c.in-Some-seen_by.version c.place_near.result left c.behind-left.result.now (each_row f c.next.new.self) _
    (sym (ap (λ o. found ++ matching_entries s (laid_over left (cons_option (with_row row o) (each_row f c.next.new.self)))) seen)
    ∙ sym (ap (λ es. found ++ matching_entries s (laid_over left (each_row f es))) c.in-Some.ensures.steps)
    ∙ c.loop-row.invariant)
    c.place_near.ensures.value
    (c.behind-left.ensures ∙ ap (without_row row) c.split_at.ensures.back)
    (c.in_ok-put_matching.ensures ∙ ap (λ l. found ++ matching_rows s l) c.split_at.ensures.front)
    (c.in_ok-put_entry.ensures ∙ ap (λ o. c.put_matching.new.found.items ++ cons_option o []) c.matching_entry.ensures)

pub returns : goal.returns
returns c =
    let s = c.args.statement.now in
    let f : Row → Kept → Option Version = λ row kept. seen_of c.args.asker.now.session c.args.asker.now.sees_before kept in
    let found = c.loop-row.found.items in
    let left = c.loop-row.left.now in
    walked c.args.asker.now (entries_in c.args.asker.now.situation.now.rows) refl
    (subst (λ es. IsStrictlySortedBy row_cmp (keys_of es)) c.by_row-row-items.ensures c.into_iter-row-iterator.ensures.into_iter_gives.5) s c.put_matching-2.new.found.items
    (c.in_ok-put_matching-2.ensures
    ∙ ap (λ l. found ++ l) (sym (matching_initial s left))
    ∙ sym (ap (λ es. found ++ matching_entries s (laid_over left (each_row f es))) c.in-None.ensures.steps.0)
    ∙ c.loop-row.invariant)
