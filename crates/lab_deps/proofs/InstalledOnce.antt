-- Where rows are installed by their committed writers, an installer has one place, and wrote the row.
use Rattle.std.{proofs.{Common.{◌≡◌, ℕ, suc, ◌≤◌, Bool, true, false, cond, ◌==◌, Some, None, List, refl, ap, ◌∙◌, arith}, lemmas.Bool.{and_parts}}, specs.Prelude.{Contains, count_by, is_some}}
use Rattle.lab_table.specs.Row.{Row}
use Rattle.lab_history.specs.{History.{History}, Version.{installers, place_in, new_state, ops_of, outcome_of, writes_row}, declared.operation.Op.{Op}}
use Rattle.lab_deps.specs.{Collected.{committed_ops}, Edges.{InstallsAt}, Meetings.{HasWritten}, Soundness.{Stands, is_writer}, declared.fault.LocalFault.TheVariants.{InstallOrder}}
use Rattle.lab_deps.specs.Soundness as sound
use Rattle.lab_deps.proofs.{Installers.{installer_committed}, Places.{times, times_count, at_times, apart_times, place_there, no_place, stable_nat}, Readers.{has_committed}, Writers.{last_has}}

module _ (h : History) (placed : (row : Row) → Stands h (InstallOrder row) → ⊥) (row : Row) (p n : ℕ) (installs : InstallsAt h row p n) where
  counted : times n (installers h row) ≡ cond (is_writer h row n) 1 0
  counted = times_count n (installers h row) ∙ stable_nat (count_by (λ m. m == n) (installers h row)) (cond (is_writer h row n) 1 0) (λ apart. placed row (n, apart))

  some : 1 ≤ times n (installers h row)
  some = at_times (installers h row) p n installs

  zero_not : (b : Bool) → times n (installers h row) ≡ cond b 1 0 → b ≡ true
  zero_not true is = refl
  zero_not false is = absurd (omega (arith, some, is))

  -- it is a writer
  writes : is_writer h row n ≡ true
  writes = zero_not (is_writer h row n) counted

  once : times n (installers h row) ≡ 1
  once = counted ∙ ap (λ b. cond b 1 0) writes

  -- the place that is found is the one at which it stands
  pub found_place : place_in (installers h row) n ≡ Some (suc p)
  found_place =
      elim (place_in (installers h row) n) as (λ o. place_in (installers h row) n ≡ o → o ≡ Some (suc p)) [
        | None ↦ λ absent. absurd (omega (arith, some, no_place (installers h row) n absent))
        | Some q ↦ λ found.
            let w = place_there (installers h row) n q found in
            let same : w.0 ≡ p = stable_nat w.0 p (λ apart. two (apart_times (installers h row) w.0 p n w.2 installs apart)) in
            ap Some (w.1 ∙ ap (λ k. suc k) same)
      ] refl
    where
      two : 2 ≤ times n (installers h row) → ⊥
      two more = absurd (omega (arith, more, once))

  -- one of its operations wrote the row
  pub writing_op : (op : Op) × Contains (committed_ops h n) op × (is_some (new_state op row) ≡ true)
  writing_op =
      let parts = and_parts (sound.has_committed (outcome_of h n)) (writes_row h n row) writes in
      let last = last_has row (ops_of h n) parts.1 in
      (last.1, has_committed h n (suc last.0) last.1 (installer_committed h placed row p n installs) last.2, last.3)

  -- so that the row is among those that it wrote
  pub row_written : (rows : List Row) → HasWritten h n rows → Contains rows row
  row_written rows has = has writing_op.0 row writing_op.1 writing_op.2
