use Rattle.std.proofs.{Common.{◌+◌, drop, sym, subst, arith}, lemmas.{List.{drop_more, drop_all}, Result.{err_from_is_err_and}}}
use Rattle.lab_matrix.proofs.AtLevels.{SoFar, none_so_far, next_so_far, all_so_far, refused_next, refusal_at, promises_kept_at}
use Rattle.lab_matrix.proofs.columns.columns_at.Goals as goal

pub loop-level-init : goal.loop-level-init
loop-level-init c = subst (SoFar c.args.levels.now c.args.levels.now) (sym c.in_ok-columns.ensures.items) (none_so_far c.args.levels.now)

pub loop-level-preserved : goal.loop-level-preserved
loop-level-preserved c =
    let rest = drop (c.loop-level.level-index + 1) c.args.levels.now in
    next_so_far c.args.levels.now _ rest _ _ _ _ (drop_more c.args.levels.now c.loop-level.level-index _ c.loop-level-test.true)
    c.in_ok-add.ensures c.in_ok-reports.ensures.reports c.loop-level.invariant

pub returns-clause-columns : goal.returns-clause-columns
returns-clause-columns c = all_so_far c.args.levels.now _ _ (drop_all c.loop-level.level-index c.args.levels.now (omega (arith, c.loop-level-test.false))) c.loop-level.invariant

pub returns-clause-promised : goal.returns-clause-promised
returns-clause-promised c = promises_kept_at c.args.levels.now _ (returns-clause-columns c)

pub returns-in_err-reports-clause-fault : goal.returns-in_err-reports-clause-fault
returns-in_err-reports-clause-fault c =
    let p = err_from_is_err_and c.from_residual-in_err-reports.result c.from_residual-in_err-reports.ensures.1 in
    let rest = drop (c.loop-level.level-index + 1) c.args.levels.now in
    rw (p.1, p.2)
    (refusal_at c.args.levels.now _
    (refused_next c.args.levels.now _ rest _ _ _ (drop_more c.args.levels.now c.loop-level.level-index _ c.loop-level-test.true)
    c.loop-level.invariant c.in_err-reports.ensures.fault))
