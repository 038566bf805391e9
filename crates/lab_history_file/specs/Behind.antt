-- What the transactions before it allow a transaction to be.
use Rattle.std.specs.Prelude.{◌≡◌, ◌+◌, ◌≤◌, ◌==◌, false, List, [], ◌∷◌, ◌++◌, length, ⊤}
use Rattle.std.specs.List.{list_any}
use Rattle.lab_history.specs.HistoryRules.{operations}
use Rattle.lab_history.specs.declared.transaction.Txn.{Txn}

-- each of some may stand behind those before it
abbrev pub AllStand : {X : Type 0} → (List X → X → Type 0) → List X → List X → Type 0
AllStand May before [] = ⊤
AllStand May before (x ∷ xs) = May before x × AllStand May (before ++ x ∷ []) xs

-- what a transaction's place among those before it allows
pub record Stands (before : List Txn) (txn : Txn) : Type 0 where
  pub alone : list_any (λ t. t.no == txn.no) before ≡ false
  pub room : length (operations before) + length txn.ops ≤ 10000
