use Rattle.lab_engine.{proofs.{Common.{chain_in, first_since, List, Option, Row, subst, sym, take, ℕ, ◌+◌, ◌∙◌}, LeastTaken.{least_new, least_untaken, least_behind}, taken.first_conflict.Goals.{then-is_before+in-Some, then-is_before+in_default, else-is_before}}, specs.Taken.{IsLeastTaken}}
use Rattle.lab_engine.proofs.taken.first_conflict.Goals as goal

pub loop-row-preserved : goal.loop-row-preserved
loop-row-preserved c =
    let taken : Row → Option ℕ = λ row. first_since c.args.before (chain_in c.args.rows.now row) in
    let rows : List Row = c.args.written.now in
    let i : ℕ = c.loop-row.row-index in
    elim c.if-is_before.branch [
      | then-is_before+in-Some w ↦ subst (λ l. IsLeastTaken taken (take (i + 1) rows) l) (sym w.least-is)
          (least_new taken rows i c.row-item.result c.loop-row-test.true c.row-item.is c.loop-row.least w.in-Some.by c.loop-row.invariant (sym c.is_before.ensures ∙ w.if-is_before.true)
          (sym w.in-Some.ensures))
      | then-is_before+in_default w ↦ subst (λ l. IsLeastTaken taken (take (i + 1) rows) l) (sym w.least-is)
          (least_untaken taken rows i c.row-item.result c.loop-row-test.true c.row-item.is c.loop-row.least c.loop-row.invariant (sym w.first_since.ensures ∙ w.in_default.is))
      | else-is_before w ↦ subst (λ l. IsLeastTaken taken (take (i + 1) rows) l) (sym w.least-is)
          (least_behind taken rows i c.row-item.result c.loop-row-test.true c.row-item.is c.loop-row.least c.loop-row.invariant (sym c.is_before.ensures ∙ w.if-is_before.false))
    ]
