use Rattle.std.proofs.{Common.{◌+◌, drop, sym, subst, arith}, lemmas.{List.{drop_more, drop_all}, Result.{err_from_is_err_and}}}
use Rattle.lab_compare.proofs.SidesSoFar.{SoFar, none_so_far, next_so_far, all_so_far, refused_next}
use Rattle.lab_compare.proofs.playing.sides_of.Goals as goal

pub loop-level-init : goal.loop-level-init
loop-level-init c = subst (SoFar c.args.script.now c.args.levels.now c.args.levels.now) (sym c.in_ok-sides.ensures.items) (none_so_far c.args.script.now c.args.levels.now)

pub loop-level-preserved : goal.loop-level-preserved
loop-level-preserved c =
    let rest = drop (c.loop-level.level-index + 1) c.args.levels.now in
    next_so_far c.args.script.now c.args.levels.now _ rest _ _ _ _ (drop_more c.args.levels.now c.loop-level.level-index _ c.loop-level-test.true)
    c.in_ok-add.ensures c.in_ok-side.ensures.side c.loop-level.invariant

pub returns-clause-sides : goal.returns-clause-sides
returns-clause-sides c = all_so_far c.args.script.now c.args.levels.now _ _ (drop_all c.loop-level.level-index c.args.levels.now (omega (arith, c.loop-level-test.false))) c.loop-level.invariant

pub returns-in_err-side-clause-fault : goal.returns-in_err-side-clause-fault
returns-in_err-side-clause-fault c =
    let p = err_from_is_err_and c.from_residual-in_err-side.result c.from_residual-in_err-side.ensures.1 in
    let rest = drop (c.loop-level.level-index + 1) c.args.levels.now in
    rw (p.1, p.2)
    (λ told. refused_next c.args.script.now c.args.levels.now _ rest _ _ _ (drop_more c.args.levels.now c.loop-level.level-index _ c.loop-level-test.true)
    c.loop-level.invariant c.in_err-side.ensures.fault)
