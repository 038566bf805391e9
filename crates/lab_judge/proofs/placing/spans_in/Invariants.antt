use Rattle.std.proofs.Common.{◌≡◌, map, take}
use Rattle.lab_judge.specs.{Runs.{spans_of}, PlaceGraphs.{span_in}}
use Rattle.lab_judge.proofs.placing.spans_in.Given as goal

-- the transactions so far
abbrev pub invariant-loop-place : goal.invariant-loop-place
invariant-loop-place l = spans_of l.spans.items ≡ map (span_in l.net.numbers l.places) (take l.place l.net.numbers)
