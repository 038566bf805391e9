use Rattle.std.{proofs.Common.{◌≤◌, length}, specs.List.{IsFirstBest}}
use Rattle.lab_judge.proofs.LeastStarts.{begins_lower}
use Rattle.lab_judge.proofs.findings.closed_walk.place_of_least.Given as goal

-- the least so far stands before this place, and is the first of them
abbrev pub invariant-loop-place : goal.invariant-loop-place
invariant-loop-place l = record {
  best : IsFirstBest begins_lower l.walk l.place l.least;
  within : l.place ≤ length l.walk;
}
