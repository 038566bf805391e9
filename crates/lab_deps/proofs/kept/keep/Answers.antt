use Rattle.std.proofs.Common.{false, sym, subst}
use Rattle.lab_deps.{specs.Turns.{classes_of, AreTurns, AreKept}, proofs.NumberedStates.{kept_more}}
use Rattle.lab_deps.proofs.kept.keep.Goals as goal

pub returns : goal.returns
returns c exact before others are so_far =
    let vs = c.args.versions.now in
    let numbers = c.args.numbers.now in
    subst (AreKept exact before others vs) (sym c.in_ok-push.ensures.items)
    (kept_more exact before others vs numbers c.args.kept.now.items _ (subst (λ bs. AreTurns false (classes_of bs numbers) vs c.in_ok-turns.turns) c.deref-3.ensures.value c.in_ok-turns.ensures) are so_far)
