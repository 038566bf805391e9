use Rattle.std.proofs.lemmas.List.{at_drop_all}
use Rattle.lab_history.specs.Version.{last_write}
use Rattle.lab_deps.proofs.LastOperations.{one_more}
use Rattle.lab_deps.proofs.lookup.none_writes.Goals as goal

pub loop-op-preserved : goal.loop-op-preserved
loop-op-preserved c = λ none.
    c.loop-op.invariant (one_more c.args.row c.args.ops.now c.loop-op.op-index c.op-item.result c.loop-op-test.true c.op-item.is (c.writes_few_others.ensures c.if-not-writes_few_others.false) none)

pub returns : goal.returns
returns c = λ _. c.loop-op.invariant (at_drop_all (λ ops. last_write ops c.args.row) c.args.ops.now c.loop-op.op-index c.loop-op-test.false)
