use Rattle.std.proofs.Common.{◌≡◌, ◌+◌, not, drop}
use Rattle.lab_judge.specs.{Phenomena.{count_kind, is_write, is_item_anti}, Places.{is_anti}}
use Rattle.lab_drawing.proofs.cycles.walk_phenomenon.Given as goal

-- what is counted so far, and what is left to count
abbrev pub invariant-loop-edge : goal.invariant-loop-edge
invariant-loop-edge l = record {
  antis : l.antis + count_kind is_anti (drop l.edge-index l.walk) ≡ count_kind is_anti l.walk;
  items : l.items + count_kind is_item_anti (drop l.edge-index l.walk) ≡ count_kind is_item_anti l.walk;
  others : l.others + count_kind (λ k. not (is_write k)) (drop l.edge-index l.walk) ≡ count_kind (λ k. not (is_write k)) l.walk;
}
