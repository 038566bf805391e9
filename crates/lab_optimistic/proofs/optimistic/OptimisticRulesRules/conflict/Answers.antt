use Rattle.std.proofs.Common.{refl, sym, subst}
use Rattle.lab_engine.specs.declared.event.Level.TheVariants.{Optimistic}
use Rattle.lab_optimistic.proofs.Decided.{IsDecided, decided}
use Rattle.lab_optimistic.proofs.optimistic.OptimisticRulesRules.conflict.Goals as goal

pub returns : goal.returns
returns c = λ past txn asks.
    let setup = c.args.asker.now.setup.now in
    subst (IsDecided setup past txn) (sym c.earlier.ensures)
    (decided setup past txn c.first_taken.result c.first_read.result (c.first_taken.ensures Optimistic past txn asks) (c.first_read.ensures Optimistic past txn refl asks))
