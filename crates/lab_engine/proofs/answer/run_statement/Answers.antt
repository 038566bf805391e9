use Rattle.lab_engine.proofs.{Common.{ap, eqb-false, eqb-true, length, nil_from_length, sym, ◌∙◌}, Answering.{asking, deadlock_answers, nobody_blocks, unblocked_answers, waits_answers}, SeenRows.{seen_is}}
use Rattle.lab_engine.proofs.answer.run_statement.Goals as goal

pub returns-then-is_empty : goal.returns-then-is_empty
returns-then-is_empty g c past txn asks h may =
    let may_run = asking c.args.statement.now txn may asks.active in
    let blockers = c.in_ok-on.ensures past txn asks in
    let empty = sym c.as_slice.ensures ∙ nil_from_length c.as_slice.result.now (eqb-true (length c.as_slice.result.now) 0 (sym c.if-is_empty.ensures)) in
    unblocked_answers _ _ _ _ _ txn may_run (nobody_blocks _ _ _ _ _ txn may_run _ blockers empty) _ (seen_is g.R.Rules.kind past txn c.args.asker.now asks) _ c.unblocked.ensures

pub returns-in-Some : goal.returns-in-Some
returns-in-Some g c past txn asks h may =
    let may_run = asking c.args.statement.now txn may asks.active in
    let blockers = c.in_ok-on.ensures past txn asks in
    let found = c.in_ok-circle.ensures g.R.Rules.kind past c.args.statement.now h may blockers in
    deadlock_answers _ _ _ _ _ txn may_run c.in-Some.circle _ c.in-Some.is found

pub returns-in-None : goal.returns-in-None
returns-in-None g c past txn asks h may =
    let may_run = asking c.args.statement.now txn may asks.active in
    let blockers = c.in_ok-on.ensures past txn asks in
    let found = c.in_ok-circle.ensures g.R.Rules.kind past c.args.statement.now h may blockers in
    waits_answers _ _ _ _ _ txn may_run c.in_ok-on.on blockers (λ none. eqb-false (length c.as_slice.result.now) 0 (sym c.is_empty.ensures ∙ c.if-is_empty.false) (ap length (c.as_slice.ensures ∙ none)))
    _ c.in-None.is found
