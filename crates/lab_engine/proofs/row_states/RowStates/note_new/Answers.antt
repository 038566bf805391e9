use Rattle.lab_engine.proofs.{Common.{ap, append-nil, arith, Bool, filter, is_none, length, List, list_any, map, pending_in, Row, row_eq, sym, take_all, Written, ◌++◌, ◌∙◌, length_new_states}, RowWalks.{noted}}
use Rattle.lab_engine.proofs.row_states.RowStates.note_new.Goals as goal

pub loop-entry-init : goal.loop-entry-init
loop-entry-init c = record {
  room = let same = sym (length_new_states c.entries-entries.result.now) ∙ ap length c.entries-entries.ensures in let room = c.requires in omega (arith, same, room);
  noted = sym (append-nil c.args.rows.now.items);
}

pub returns : goal.returns
returns c = λ row.
    let holds : Row → Bool = λ r. is_none (pending_in c.args.self.now r c.args.session) in
    ap (list_any (row_eq row)) (c.loop-entry.invariant.noted ∙ ap (λ (es : List (Row × Written)). c.args.rows.now.items ++ filter holds (map (λ e. e.0) es))
    (take_all c.loop-entry.entry-index c.entries-entries.result.now c.loop-entry-test.false))
    ∙ noted row c.args.rows.now.items c.args.writes.now c.entries-entries.result.now holds c.entries-entries.ensures
