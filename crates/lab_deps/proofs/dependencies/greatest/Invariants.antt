use Rattle.std.proofs.Common.{◌<◌, ◌≤◌, ℕ, get_or}
use Rattle.lab_deps.proofs.dependencies.greatest.Given as goal

-- none of the cells so far is greater
abbrev pub invariant-loop-cell : goal.invariant-loop-cell
invariant-loop-cell l = (k : ℕ) → k < l.cell-index → get_or l.cells k 0 ≤ l.most
