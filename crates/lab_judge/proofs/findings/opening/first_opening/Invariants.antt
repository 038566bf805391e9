use Rattle.std.proofs.Common.{◌<◌, ℕ}
use Rattle.lab_order.specs.Path.{Reaches}
use Rattle.lab_deps.specs.KindSets.{among}
use Rattle.lab_judge.specs.Graphs.{Tie}
use Rattle.lab_judge.proofs.findings.opening.first_opening.Given as goal

-- none from the transactions so far opens a walk that leads back
abbrev pub invariant-loop-from : goal.invariant-loop-from
invariant-loop-from l = (p q : ℕ) → p < l.from → Reaches l.ways q p → ¬ Tie (among l.opening) l.net p q
