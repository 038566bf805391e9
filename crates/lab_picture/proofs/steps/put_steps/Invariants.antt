use Rattle.std.proofs.Common.{◌≡◌, ◌++◌, drop}
use Rattle.lab_picture.specs.Steps.{steps_text}
use Rattle.lab_picture.proofs.steps.put_steps.Given as goal

abbrev pub invariant-loop-index : goal.invariant-loop-index
invariant-loop-index l =
    l.out.items ++ steps_text l.frame l.columns l.index (drop l.index l.arrows) ≡ l.initial.out.items ++ steps_text l.frame l.columns 0 l.arrows
