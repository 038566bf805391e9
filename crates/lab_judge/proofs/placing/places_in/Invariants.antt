use Rattle.std.proofs.Common.{◌≡◌, ◌<◌, ℕ, length, slice_index, get_or}
use Rattle.lab_judge.proofs.placing.places_in.Given as goal

-- the nodes so far have their places
abbrev pub invariant-loop-place : goal.invariant-loop-place
invariant-loop-place l = record {
  size : length l.places.items ≡ l.count;
  set : (k : ℕ) → k < l.place → slice_index l.places.items (get_or l.order k 0) ≡ k;
}
