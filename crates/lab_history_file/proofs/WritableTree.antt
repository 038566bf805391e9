-- The value of a history's file nests no deeper than JSON is read: seven levels.
use Rattle.std.{proofs.Common.{◌≤◌, ℕ, ℤ, suc, Option, Some, None, List, [], ◌∷◌, arith}, specs.FinMap.{FinMap}}
use Rattle.std.specs.FinMap as finite
use Rattle.serde_json.specs.{Data.{Data, depth}, Read.{max_depth}}
use Rattle.lab_table.specs.Row.{Row, row_cmp}
use Rattle.lab_history.specs.{History.{History}, declared.{operation.{Op.{Op}, VersionName.{VersionName, TheVariants.{Initial, Of}}}, transaction.Txn.{Txn}}}
use Rattle.lab_history_file.specs.Tree.{natural_tree, value_tree, written_tree, list_tree, pair_tree, map_tree, version_tree, op_tree, txn_tree, tree_of}

written_flat : (s : Option ℤ) → depth (written_tree s) ≤ 0
written_flat None = omega arith
written_flat (Some z) = omega arith

list_flat : {X : Type 0} (n : ℕ) (tree : X → Data) → ((x : X) → depth (tree x) ≤ n) → (xs : List X) → depth (list_tree tree xs) ≤ suc n
list_flat n tree flat [] = omega arith
list_flat n tree flat (x ∷ xs) = omega (arith, flat x, list_flat n tree flat xs)

map_flat : {X : Type 0} (n : ℕ) (tree : X → Data) → ((x : X) → depth (tree x) ≤ n) → (m : FinMap row_cmp X) → depth (map_tree tree m) ≤ suc (suc n)
map_flat n tree flat m = list_flat (suc n) (pair_tree tree) (λ e. omega (arith, flat e.1)) (finite.entries m)

version_flat : (row : Row) (v : VersionName) → depth (version_tree (row, v)) ≤ 1
version_flat row Initial = omega arith
version_flat row (Of txn op) = omega arith

op_flat : (op : Op) → depth (op_tree op) ≤ 3
op_flat op = omega (arith, map_flat 0 value_tree (λ z. omega arith) op.rows, list_flat 1 version_tree (λ e. version_flat e.0 e.1) (finite.entries op.view), map_flat 0 written_tree written_flat op.writes)

txn_flat : (t : Txn) → depth (txn_tree t) ≤ 5
txn_flat t = omega (arith, list_flat 3 op_tree op_flat t.ops)

pub tree_flat : (h : History) → depth (tree_of h) ≤ max_depth
tree_flat h =
    omega (
      arith,
      map_flat 0 value_tree (λ z. omega arith) h.end_table,
      map_flat 0 value_tree (λ z. omega arith) h.initial,
      map_flat 1 (list_tree natural_tree) (list_flat 0 natural_tree (λ n. omega arith)) h.installed,
      list_flat 5 txn_tree txn_flat h.txns,
    )
