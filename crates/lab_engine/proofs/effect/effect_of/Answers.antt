use Rattle.lab_engine.proofs.Common.{AreMatching, fails, false, IsEffectFault, MatchOption, Row, seen_in, subst, sym, ◌≡◌}
use Rattle.lab_engine.proofs.effect.effect_of.Goals as goal

pub returns-in-Some-clause-fault : goal.returns-in-Some-clause-fault
returns-in-Some-clause-fault c =
    let s = c.args.statement.now in
    let sees = seen_in c.args.asker.now in
    let are = subst (AreMatching s sees) (sym c.deref.ensures.value) c.in_ok-matching.ensures in
    subst (λ found. MatchOption found ((row : Row) → fails s row (sees row).state ≡ false) (IsEffectFault sees s)) c.in-Some.is (c.fault_of.ensures.fault sees are)

pub returns-clause-ok : goal.returns-clause-ok
returns-clause-ok c =
    let s = c.args.statement.now in
    let sees = seen_in c.args.asker.now in
    let are = subst (AreMatching s sees) (sym c.deref.ensures.value) c.in_ok-matching.ensures in
    let runs : (row : Row) → fails s row (sees row).state ≡ false =
    subst (λ found. MatchOption found ((row : Row) → fails s row (sees row).state ≡ false) (IsEffectFault sees s)) c.in_default.is (c.fault_of.ensures.fault sees are) in
    record {
      runs = runs;
      view_is = c.in_ok-view.ensures;
      rows_are = c.rows_of.ensures sees c.in_ok-matching.ensures;
      writes_are = c.in_ok-writes.ensures sees (subst (AreMatching s sees) (sym c.deref-2.ensures.value) c.in_ok-matching.ensures) runs;
    }
