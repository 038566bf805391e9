use Rattle.std.proofs.Common.{◌≡◌, ◌++◌, drop}
use Rattle.lab_picture.specs.Named.{drawn}
use Rattle.lab_picture.proofs.named.add_drawn.Given as goal

abbrev pub invariant-loop-arrow : goal.invariant-loop-arrow
invariant-loop-arrow l = l.found.items ++ drawn l.columns (drop l.arrow-index l.arrows) ≡ l.initial.found.items ++ drawn l.columns l.arrows
