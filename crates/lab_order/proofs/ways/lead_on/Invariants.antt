use Rattle.std.{proofs.Common.{◌≡◌, ◌||◌, ◌&&◌, ◌<◌, ◌≤◌, ℕ, [], length}, specs.{Prelude.{slice_index_or}, List.{All}}}
use Rattle.lab_sets.specs.Sets.{has, room}
use Rattle.lab_order.specs.Ways.{leads_by}
use Rattle.lab_order.proofs.ways.lead_on.Given as goal

-- the sets so far have taken over what they should, and the others are as they were
abbrev pub invariant-loop-to : goal.invariant-loop-to
invariant-loop-to l = record {
  size : length l.sets ≡ length l.fn.sets;
  rooms : All (λ s. room s ≡ room l.through) l.sets;
  done : (from to : ℕ) → to < l.to → leads_by l.sets from to ≡ (leads_by l.fn.sets from to || (leads_by l.fn.sets l.node to && has l.through from));
  left : (to : ℕ) → l.to ≤ to → slice_index_or l.sets to [] ≡ slice_index_or l.fn.sets to [];
}
