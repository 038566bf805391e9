use Rattle.lab_engine.proofs.{Common.{ap, arith, cases_lt, get_or, get_or_default, inl, inr, IsReadyAt, Row, subst, Written, ◌∙◌, ◌≡◌}, RowWalks.{entry_of}}
use Rattle.lab_engine.proofs.row_states.RowStates.reserve_each.Goals as goal

pub loop-entry-preserved : goal.loop-entry-preserved
loop-entry-preserved c = record {
  same = record {
    chain = λ row. c.in_ok-reserve.ensures.same.chain row ∙ c.loop-entry.invariant.same.chain row;
    pending = λ row n. c.in_ok-reserve.ensures.same.pending row n ∙ c.loop-entry.invariant.same.pending row n;
  };
  ready = λ k d lt. elim (cases_lt k c.loop-entry.entry-index) [
    | inl less ↦ c.in_ok-reserve.ensures.still (get_or c.entries-entries.result.now k d).0 (c.loop-entry.invariant.ready k d less)
    | inr from ↦
        let last : c.loop-entry.entry-index ≡ k = omega (arith, lt, from) in
        subst (λ (e : Row × Written). IsReadyAt c.reserve.new.self e.0)
        (c.entry-item.is ∙ get_or_default c.entries-entries.result.now c.loop-entry.entry-index c.entry-item.result d c.loop-entry-test.true
        ∙ ap (λ n. get_or c.entries-entries.result.now n d) last) c.in_ok-reserve.ensures.ready
  ];
}

pub returns-clause-ready : goal.returns-clause-ready
returns-clause-ready c = λ row some.
    let at = entry_of c.args.writes.now c.entries-entries.result.now c.entries-entries.ensures row some in
    let lt = at.2 in let end = c.loop-entry-test.false in
    subst (IsReadyAt c.loop-entry.self) at.3 (c.loop-entry.invariant.ready at.0 at.1 (omega (arith, lt, end)))
