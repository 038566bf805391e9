use Rattle.std.proofs.Common.{rules}
use Rattle.lab_history.specs.Version.{is_missing}
use Rattle.lab_deps.proofs.installs.missing_at_op.Goals as goal

pub returns : goal.returns
returns c = c.first_written.ensures (is_missing c.args.history.now c.args.txn) (λ row b post. search rules)
