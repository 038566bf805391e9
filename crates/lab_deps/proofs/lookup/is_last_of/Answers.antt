use Rattle.lab_deps.proofs.LastOperations.{ends_with}
use Rattle.lab_deps.proofs.lookup.is_last_of.Goals as goal

pub returns-then-none_follows : goal.returns-then-none_follows
returns-then-none_follows c = λ t. ends_with c.args.row c.args.ops.now c.args.op (c.none_follows.ensures c.if-none_follows.true) (c.writes_at.ensures t)
