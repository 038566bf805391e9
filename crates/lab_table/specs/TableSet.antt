-- Sets of table names, and their limit.
use Rattle.std.specs.Prelude.{ℕ, ◌≤◌, Bool, cond, nat_le, List, [], ◌∷◌, ◌++◌, length, take}
use Rattle.std.specs.List.{list_any}
use Rattle.std.proofs.Common.{sym, subst}
use Rattle.std.proofs.Math.Nat.{min-le_left}
use Rattle.std.proofs.lemmas.List.{length-take}
use Rattle.lab_table.specs.TableName.{table_name_eq}

-- the most tables that a script or a history may name
abbrev pub max_tables : ℕ
max_tables = 4

-- whether a name is one of these
abbrev pub is_among : List (List ℕ) → List ℕ → Bool
is_among names name = list_any (table_name_eq name) names

-- names with one more, where it isn't one of them
abbrev pub with_name : List (List ℕ) → List ℕ → List (List ℕ)
with_name names name = cond (is_among names name) names (names ++ name ∷ [])

-- whether there are no more than a script or a history may name
abbrev pub are_few : List (List ℕ) → Bool
are_few names = nat_le (length names) max_tables

-- names of which there are no more
pub record FewNames : Type 0 where
  pub names : List (List ℕ)
  pub few : length names ≤ max_tables

-- no more than the first of these names
abbrev pub few_of : List (List ℕ) → FewNames
few_of names = record { names = take max_tables names; few = subst (λ n. n ≤ max_tables) (sym (length-take max_tables names)) (min-le_left max_tables (length names)) }
