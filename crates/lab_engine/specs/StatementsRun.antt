-- What is kept of the statements that a transaction has run.
use Rattle.std.specs.Prelude.{◌≤◌, ℕ, List, length, take}
use Rattle.std.specs.Coded.{Coded, coded×, coded_list, coded_ℕ, code_by}
use Rattle.std.proofs.Common.{refl}
use Rattle.lab_table.specs.declared.statement.Statement.{Statement}
use Rattle.lab_conditions.specs.Index.{Covers, Index}

-- the statements, in order, and for how many there is room
pub record Ran : Type 0 where
  pub items : List Statement
  pub places : ℕ

-- it is stored as its parts, given the code of a statement
abbrev pub coded_ran : Coded Statement → Coded Ran
coded_ran statement = code_by (List Statement × ℕ) (coded× (coded_list statement) coded_ℕ) (λ r. (r.items, r.places)) (λ p. record { items = p.0; places = p.1 }) (λ _. refl)

-- an index covers so many of some statements, from the first on
pub record IsIndexed (index : Index) (indexed : ℕ) (statements : List Statement) : Type 0 where
  pub within : indexed ≤ length statements
  pub covers : Covers index (take indexed statements)
