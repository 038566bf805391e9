use Rattle.std.{proofs.Common.{◌≡◌, ◌≤◌}, specs.Prelude.{not}}
use Rattle.lab_deps.specs.KindSets.{is_anti}
use Rattle.lab_judge.specs.Phenomena.{is_write, is_item_anti}
use Rattle.lab_parts.proofs.WholeKinds.{free_of_counted, free_of_cycles, free_of_circles}
use Rattle.lab_parts.proofs.laws.parts_show_what_the_whole_shows.Goals as goal

pub returns : goal.returns
returns c = record {
  cycle = free_of_cycles;
  g0 = free_of_counted (λ k. not (is_write k)) (λ n. n ≡ 0);
  g1c = free_of_counted is_anti (λ n. n ≡ 0);
  g_single = free_of_counted is_anti (λ n. n ≡ 1);
  g2_item = free_of_counted is_item_anti (λ n. 1 ≤ n);
  g2 = free_of_counted is_anti (λ n. 1 ≤ n);
  circle = free_of_circles;
}
