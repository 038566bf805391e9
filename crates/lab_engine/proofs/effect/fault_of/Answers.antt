use Rattle.lab_engine.proofs.{Common.{fails, false, IsEffectFault, MatchOption, Row, subst, sym, ◌∙◌, ◌≡◌}, FailingRows.{all_run, update_fails, insert_fails}}
use Rattle.lab_engine.proofs.effect.fault_of.Goals as goal

pub returns-in_err-id-clause-fault : goal.returns-in_err-id-clause-fault
returns-in_err-id-clause-fault c sees are =
    let s = c.args.statement.now in
    subst (λ found. MatchOption found ((row : Row) → fails s row (sees row).state ≡ false) (IsEffectFault sees s)) (sym c.from_residual.ensures)
    (all_run s sees c.args.matching.now are (sym c.first_failing.ensures ∙ c.in_err-id.was))

pub returns-then-is_update-clause-fault : goal.returns-then-is_update-clause-fault
returns-then-is_update-clause-fault c sees are =
    update_fails c.args.statement.now sees c.args.matching.now are c.in_ok-id.id (sym c.is_update.ensures ∙ c.if-is_update.true) (sym c.first_failing.ensures ∙ c.in_ok-id.was)

pub returns-else-is_update-clause-fault : goal.returns-else-is_update-clause-fault
returns-else-is_update-clause-fault c sees are =
    insert_fails c.args.statement.now sees c.args.matching.now are c.in_ok-id.id (sym c.is_update.ensures ∙ c.if-is_update.false) (sym c.first_failing.ensures ∙ c.in_ok-id.was)
