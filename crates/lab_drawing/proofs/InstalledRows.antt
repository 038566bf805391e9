-- Where rows are installed by their committed writers, an installer wrote the row, and stands at one place.
use Rattle.std.{proofs.{Common.{◌≡◌, ℕ, suc, ◌≤◌, ◌==◌, true, cond, Some, ap, ◌∙◌, arith}, lemmas.Bool.{and_parts}}, specs.Prelude.{count_by}}
use Rattle.lab_table.specs.Row.{Row}
use Rattle.lab_history.specs.{History.{History}, Version.{installers, outcome_of, place_in, writes_row}}
use Rattle.lab_deps.{specs.{Edges.{InstallsAt}, Soundness.{Stands, has_committed, is_writer}, declared.fault.LocalFault.TheVariants.{InstallOrder}}, proofs.Places.{times, times_count, at_times, placed, stable_nat}}
use Rattle.lab_judge.proofs.{Lists.{one_place}, SeenVersions.{one_if, at_most_one}}

module _ (h : History) (installed : (row : Row) → Stands h (InstallOrder row) → ⊥) (row : Row) (p n : ℕ) (at : InstallsAt h row p n) where
  counted : times n (installers h row) ≡ cond (is_writer h row n) 1 0
  counted = times_count n (installers h row) ∙ stable_nat (count_by (λ m. m == n) (installers h row)) (cond (is_writer h row n) 1 0) (λ apart. installed row (n, apart))

  some : 1 ≤ times n (installers h row)
  some = at_times (installers h row) p n at

  -- it wrote the row
  pub wrote : writes_row h n row ≡ true
  wrote = (and_parts (has_committed (outcome_of h n)) (writes_row h n row) (one_if (is_writer h row n) (omega (arith, counted, some)))).1

  -- its place is the one at which it stands
  pub one_found : place_in (installers h row) n ≡ Some (suc p)
  one_found =
      let found = placed (installers h row) n some in
      let few : times n (installers h row) ≤ 1 = omega (arith, counted, at_most_one (is_writer h row n)) in
      found.1 ∙ ap (λ q. Some (suc q)) (one_place (installers h row) found.0 p n few found.2 at)
