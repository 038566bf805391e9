-- Lists that are written item by item.
use Rattle.std.proofs.Common.{◌≡◌, Bool, true, List, [], ◌∷◌, map, refl, sym, subst, ◌∙◌}
use Rattle.std.specs.FinMap as finite
use Rattle.std.specs.{FinMap.{FinMap}, List.{All, list_all}}
use Rattle.std.proofs.lemmas.List.{Folds.{list_all-map}, Sums.{AllPass-from_list_all}, Elements.{All-nil, All-cons, All-head, All-tail}}
use Rattle.serde_json.specs.{Data.{Data}, View.{items_of}}
use Rattle.lab_table.specs.Row.{Row, row_cmp}
use Rattle.lab_history.{specs.{HistoryRules.{operations, OpKeeps, OpsKeep}, declared.{operation.Op.{Op}, transaction.Txn.{Txn}}}, proofs.KeptOperations.{ops_parted}}
use Rattle.lab_history_file.specs.{FileOf.{AreEach, IsListOf}, Tree.{list_tree}}

module _ {X : Type 0} (tree : X → Data) (Is : Data → X → Type 0) where
  each_stands : (xs : List X) → All (λ x. Is (tree x) x) xs → AreEach Is (items_of (map tree xs)) xs
  each_stands [] h = tt
  each_stands (x ∷ xs) h = (All-head (λ y. Is (tree y) y) x xs h, each_stands xs (All-tail (λ y. Is (tree y) y) x xs h))

  -- the list is of the format, where each element's tree is what the format says of it
  pub list_stands : (xs : List X) → All (λ x. Is (tree x) x) xs → IsListOf Is (list_tree tree xs) xs
  list_stands xs h = (items_of (map tree xs), refl, each_stands xs h)

-- each entry of a finite map whose values pass a test
pub entries_pass : {X : Type 0} (p : X → Bool) (m : FinMap row_cmp X) (xs : List (Row × X)) → xs ≡ finite.entries m → list_all p (finite.values m) ≡ true → All (λ e. p e.1 ≡ true) xs
entries_pass p m xs is h = subst (All (λ e. p e.1 ≡ true)) (sym is) (AllPass-from_list_all (λ e. p e.1) (finite.entries m) (sym (list_all-map p (λ e. e.1) (finite.entries m)) ∙ h))

-- each operation that keeps to what is asked of it, and each transaction of such
pub ops_pass : (ops : List Op) → OpsKeep ops → All OpKeeps ops
ops_pass [] h = All-nil OpKeeps
ops_pass (op ∷ ops) h = All-cons OpKeeps op ops h.0 (ops_pass ops h.1)

pub txns_pass : (txns : List Txn) → OpsKeep (operations txns) → All (λ t. All OpKeeps t.ops) txns
txns_pass [] h = All-nil (λ t. All OpKeeps t.ops)
txns_pass (t ∷ ts) h = let parts = ops_parted t.ops (operations ts) h in All-cons (λ u. All OpKeeps u.ops) t ts (ops_pass t.ops parts.0) (txns_pass ts parts.1)
