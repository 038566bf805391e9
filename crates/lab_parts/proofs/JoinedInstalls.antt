-- Who installs a row at a place of two parts.
use Rattle.std.{proofs.Common.{◌≡◌, ℕ, ◌+◌, ◌<◌, Some, length, sym, ap, ◌∙◌}, specs.Prelude.{slice_get}}
use Rattle.lab_table.specs.Row.{Row}
use Rattle.lab_history.specs.{History.{History}, Version.{installers}}
use Rattle.lab_deps.specs.Soundness.{IsSound}
use Rattle.lab_parts.{specs.Whole.{above_all, moved, joined}, proofs.{JoinedLists.{low_at, high_at}, JoinedInstallers.{installers-joined}, SoundParts.{installers_below}}}

module _ (a b : History) where
  -- a number of the first part that installs a row does so there
  pub first_at : (row : Row) (p n : ℕ) → slice_get (installers (joined a b) row) p ≡ Some n → n < above_all a.txns → slice_get (installers a row) p ≡ Some n
  first_at row p n at less = low_at (above_all a.txns) (installers a row) (installers b row) p n (ap (λ ns. slice_get ns p) (sym (installers-joined a b row)) ∙ at) less

  -- a moved number does so in the second part
  pub second_at : IsSound a → (row : Row) (p m : ℕ) → slice_get (installers (joined a b) row) p ≡ Some (moved a m) → (q : ℕ) × (p ≡ length (installers a row) + q) × (slice_get (installers b row) q ≡ Some m)
  second_at sound row p m at =
      high_at (above_all a.txns) (installers a row) (installers b row) p m (installers_below a sound row) (ap (λ ns. slice_get ns p) (sym (installers-joined a b row)) ∙ at)
