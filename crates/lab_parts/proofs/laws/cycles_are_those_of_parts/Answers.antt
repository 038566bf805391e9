use Rattle.std.{proofs.Common.{◌≡◌, ◌≤◌}, specs.Prelude.{not}}
use Rattle.lab_deps.specs.KindSets.{is_anti}
use Rattle.lab_judge.specs.Phenomena.{is_write, is_item_anti}
use Rattle.lab_parts.proofs.WholeKinds.{cycles, counted_cycles, circles}
use Rattle.lab_parts.proofs.laws.cycles_are_those_of_parts.Goals as goal

pub returns : goal.returns
returns c = record {
  cycle = cycles;
  g0 = counted_cycles (λ k. not (is_write k)) (λ n. n ≡ 0);
  g1c = counted_cycles is_anti (λ n. n ≡ 0);
  g_single = counted_cycles is_anti (λ n. n ≡ 1);
  g2_item = counted_cycles is_item_anti (λ n. 1 ≤ n);
  g2 = counted_cycles is_anti (λ n. 1 ≤ n);
  circle = circles;
}
