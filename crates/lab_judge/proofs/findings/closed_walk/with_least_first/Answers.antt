use Rattle.std.{proofs.Common.{subst, length}, specs.List.{IsFirstBest}}
use Rattle.lab_judge.proofs.LeastStarts.{begins_lower, turn_at}
use Rattle.lab_judge.proofs.findings.closed_walk.with_least_first.Goals as goal

pub returns : goal.returns
returns c =
    turn_at c.args.walk.items c.place_of_least-least.result (subst (λ es. IsFirstBest begins_lower es (length es) c.place_of_least-least.result) c.deref.ensures.value c.place_of_least-least.ensures)
    _ c.rotate_left.ensures.items
