use Rattle.std.proofs.Common.{◌∙◌, ap, ◌||◌}
use Rattle.lab_engine.specs.{SessionBits.{has}, declared.event.Level.TheVariants.{Locking}}
use Rattle.lab_locking.proofs.Blocking.{blocks_by_one}
use Rattle.lab_locking.proofs.engine.LockRulesRules.blockers.Goals as goal

pub returns : goal.returns
returns c = λ past txn asks other.
    let asker = c.args.asker.now in
    blocks_by_one asker.setup.now past asker.session other txn c.args.statement.now (has c.with_readers_in_way.result other) (has c.match_holders.result other) (has c.writers_in_way.result other)
    (has c.with-holders.result other) (c.with-holders.ensures other)
    (c.match_holders.ensures past txn asks other) (c.writers_in_way.ensures Locking past txn asks other) (c.with_readers_in_way.ensures past txn asks other)
