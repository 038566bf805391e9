use Rattle.lab_engine.specs.declared.event.Level.TheVariants.{Snapshot}
use Rattle.lab_versions.proofs.Conflicts.{taken_answers}
use Rattle.lab_versions.proofs.snapshot.SnapshotRulesRules.conflict.Goals as goal

pub returns : goal.returns
returns c = λ past txn asks. taken_answers c.args.asker.now.setup.now past txn c.first_taken.result (c.first_taken.ensures Snapshot past txn asks)
