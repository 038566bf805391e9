use Rattle.std.proofs.Common.{inl, inr}
use Rattle.lab_engine.specs.declared.event.Level.TheVariants.{Committed}
use Rattle.lab_versions.proofs.committed.CommittedRulesRules.blockers.Goals as goal

pub returns : goal.returns
returns c = λ past txn asks other.
    let writers = c.writers_in_way.ensures Committed past txn asks other in (
      (λ any. let o = writers.0 any in (o.0, o.1, o.2, inr (inl o.3))),
      (λ o. writers.1 (o.0, o.1, o.2, elim o.3 [ inl none ↦ absurd none | inr either ↦ elim either [ inl writes ↦ writes | inr none ↦ absurd none ] ])),
    )
