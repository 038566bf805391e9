use Rattle.std.proofs.Common.{sym, subst}
use Rattle.lab_deps.specs.{KindsBetween.{IsTold}, Numbering.{AreNodes}, Scopes.{edges_in}}
use Rattle.lab_deps.proofs.dependencies.Dependencies.in_scope.Goals as goal

pub arrows_of-requires-clause-nodes : goal.arrows_of-requires-clause-nodes
arrows_of-requires-clause-nodes c = subst (AreNodes c.args.history.now) (sym c.deref.ensures.value) c.in_ok-numbers.ensures

pub invariant_of-result : goal.invariant_of-result
invariant_of-result c =
    let a = c.in_ok-arrows.arrows in
    record {
      allowed = c.requires;
      rising = c.in_ok-numbers.ensures.rising;
      few = c.in_ok-numbers.ensures.few;
      told = subst (λ ns. IsTold (edges_in c.args.scope c.args.history.now) ns a.places.items a.width a.cells.items) c.deref.ensures.value c.in_ok-arrows.ensures;
    }
