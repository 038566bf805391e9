use Rattle.std.proofs.Common.{◌<◌, ◌*◌, ℕ}
use Rattle.lab_order.specs.Path.{Reaches}
use Rattle.lab_deps.specs.KindSets.{among}
use Rattle.lab_judge.specs.Graphs.{Tie}
use Rattle.lab_judge.proofs.findings.opening.first_leading.Given as goal

-- none so far, by 64 of them, leads back and depends on it
abbrev pub invariant-loop-block : goal.invariant-loop-block
invariant-loop-block l = (to : ℕ) → to < 64 * l.block → Reaches l.ways to l.from → ¬ Tie (among l.kinds) l.net l.from to
