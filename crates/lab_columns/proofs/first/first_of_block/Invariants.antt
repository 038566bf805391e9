use Rattle.std.{proofs.Common.{◌≡◌, ℤ, Bool, false, Some, drop}, specs.Prelude.{find}}
use Rattle.lab_table.specs.{Row.{Row}, Statement.{matches}}
use Rattle.lab_columns.proofs.first.first_of_block.Given as goal

-- what is found among the rows that are left is found among all
abbrev pub invariant-loop-place : goal.invariant-loop-place
invariant-loop-place g l =
    (passes : Row → ℤ → Bool) → ((row : Row) (value : ℤ) (b : Bool) → goal.F-post g l.test row value b → b ≡ passes row value) → ((row : Row) (value : ℤ) → matches l.statement row (Some value) ≡ false → passes row value ≡ false)
    → find (λ e. passes e.0 e.1) (drop l.place l.rows) ≡ find (λ e. passes e.0 e.1) l.rows
