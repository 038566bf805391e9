-- What is true of the transaction that is named as out of place among a row's installers.
use Rattle.std.specs.Prelude.{◌≡◌, ℕ, ◌≤◌, ◌==◌, true, false, count_by}
use Rattle.lab_table.specs.Row.{Row}
use Rattle.lab_history.specs.History.{History}
use Rattle.lab_history.specs.Version.{installers}
use Rattle.lab_deps.specs.Soundness.{is_writer}
use Rattle.lab_drawing.specs.declared.installs.Misplaced.{Misplaced}
use Rattle.lab_drawing.specs.declared.installs.Why.{Why}
use Rattle.lab_drawing.specs.declared.installs.Why.TheVariants.{Missing, Unwritten, Repeated}

-- how often a transaction stands among a row's installers
abbrev pub times_installed : History → Row → ℕ → ℕ
times_installed h row n = count_by (λ m. m == n) (installers h row)

-- a transaction is out of place so: it committed a write and isn't an installer, is one and committed none, or committed one and is one at two places or more
abbrev pub IsOut : History → Row → ℕ → Why → Type 0
IsOut h row n Missing = (is_writer h row n ≡ true) × (times_installed h row n ≡ 0)
IsOut h row n Unwritten = (is_writer h row n ≡ false) × (1 ≤ times_installed h row n)
IsOut h row n Repeated = (is_writer h row n ≡ true) × (2 ≤ times_installed h row n)

-- what is named is so, and where writers are missing it is one of them
pub record NamesOut (h : History) (row : Row) (found : Misplaced) : Type 0 where
  pub so : IsOut h row found.txn found.why
  pub missing_first : (n : ℕ) → IsOut h row n Missing → found.why ≡ Missing
