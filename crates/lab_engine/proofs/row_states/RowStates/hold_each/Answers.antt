use Rattle.lab_engine.proofs.{Common.{ap, drop_all, get_or, IsReadyAt, pending_in, refl, Row, subst, sym, Written, ◌∙◌}, RowWalks.{held, held_map, written_at}}
use Rattle.lab_engine.proofs.row_states.RowStates.hold_each.Goals as goal

pub loop-entry-init : goal.loop-entry-init
loop-entry-init c = record {
  chain = λ row. refl;
  pending = λ row n. refl;
  ready = λ k d lt. c.requires (get_or c.entries-entries.result.now k d).0 (written_at c.args.writes.now c.entries-entries.result.now c.entries-entries.ensures k d lt);
}

pub hold-requires : goal.hold-requires
hold-requires c =
    subst (λ (e : Row × Written). IsReadyAt c.loop-entry.self e.0) (sym c.entry-item.is) (c.loop-entry.invariant.ready c.loop-entry.entry-index c.entry-item.result c.loop-entry-test.true)

pub returns-clause-pending : goal.returns-clause-pending
returns-clause-pending c = λ row n.
    ap (λ es. held c.args.name c.args.session row n es (pending_in c.loop-entry.self row n)) (sym (drop_all c.loop-entry.entry-index c.entries-entries.result.now c.loop-entry-test.false))
    ∙ c.loop-entry.invariant.pending row n
    ∙ held_map c.args.name c.args.session row n c.args.writes.now c.entries-entries.result.now (pending_in c.args.self.now row n) c.entries-entries.ensures
