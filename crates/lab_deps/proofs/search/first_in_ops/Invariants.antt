use Rattle.std.{proofs.Common.{◌≡◌, ◌+◌, true, Some, T}, specs.FinMap.{find, is_sorted}}
use Rattle.lab_table.specs.Row.{Row, row_cmp}
use Rattle.lab_history.specs.{Version.{op_at}, declared.operation.{Op.{Op}, VersionName.{VersionName}}}
use Rattle.lab_deps.specs.{FaultOrder.{place_among}, Fine.{is_fine, IsFineView}, FirstOf.{IsFirstOf}, Search.{ComesFirst, IsSoughtTo}}
use Rattle.lab_deps.proofs.search.first_in_ops.Given as goal

-- what is found is the first up to the operations so far; where the last of these is known to be fine the next may see what it saw, as it may what is known
abbrev pub invariant-loop-index : goal.invariant-loop-index
invariant-loop-index l = record {
  first : IsFirstOf (ComesFirst l.history) (IsSoughtTo l.history l.kinds (place_among l.history.txns l.txn) l.index) l.found;
  fine : l.fine ≡ true → (before : Op) → op_at l.ops l.index ≡ Some before → IsFineView l.history l.txn (l.index + 1) before.view;
  sorted : T (is_sorted row_cmp l.known);
  known : (row : Row) (v : VersionName) → find row_cmp row l.known ≡ Some v → is_fine l.history l.txn (l.index + 1) row v ≡ true;
}
