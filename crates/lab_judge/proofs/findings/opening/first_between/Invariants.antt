use Rattle.std.proofs.Common.{◌≤◌, ◌<◌, ℕ}
use Rattle.lab_order.specs.Path.{Reaches}
use Rattle.lab_deps.specs.KindSets.{among}
use Rattle.lab_judge.specs.Graphs.{Tie}
use Rattle.lab_judge.proofs.findings.opening.first_between.Given as goal

-- none so far leads back and depends on it
abbrev pub invariant-loop-to : goal.invariant-loop-to
invariant-loop-to l = (k : ℕ) → l.first ≤ k → k < l.to → Reaches l.ways k l.from → ¬ Tie (among l.kinds) l.net l.from k
