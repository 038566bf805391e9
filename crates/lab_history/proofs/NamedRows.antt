-- What passes for all rows that a history names passes for the rows of each of its lists.
use Rattle.std.{proofs.{Common.{◌≡◌, Bool, ◌&&◌, List, [], ◌∷◌, refl, ap, ◌∙◌}, lemmas.{List.Folds.{list_all-append, list_all-map}, Grind.{flat_map-append}}}, specs.{List.{list_all, flat_map}, FinMap.{entries}}}
use Rattle.lab_table.specs.Row.{Row}
use Rattle.lab_history.specs.{VersionName.{new_states}, declared.{operation.{State.{State}, Op.{Op}}, transaction.Txn.{Txn}}, History.{History}, HistoryRules.{operations, op_rows, named_rows}}

module _ (p : Row → Bool) where
  -- the rows of states are those of the new states
  pub states_pass : (es : List (Row × State)) → list_all (λ e. p e.0) (new_states es) ≡ list_all (λ e. p e.0) es
  states_pass [] = refl
  states_pass (e ∷ es) = ap (λ b. p e.0 && b) (states_pass es)

  pub op_passes : (op : Op) → list_all p (op_rows op) ≡ (list_all (λ e. p e.0) (entries op.view) && list_all (λ e. p e.0) (entries op.rows) && list_all (λ e. p e.0) (entries op.writes))
  op_passes op = simp (list_all-append, list_all-map)

  ops_pass : (ops : List Op) → list_all p (flat_map op_rows ops) ≡ list_all (λ op. list_all p (op_rows op)) ops
  ops_pass [] = refl
  ops_pass (op ∷ ops) = list_all-append p (op_rows op) (flat_map op_rows ops) ∙ ap (λ b. list_all p (op_rows op) && b) (ops_pass ops)

  pub txns_pass : (ts : List Txn) → list_all p (flat_map op_rows (operations ts)) ≡ list_all (λ t. list_all (λ op. list_all p (op_rows op)) t.ops) ts
  txns_pass [] = refl
  txns_pass (t ∷ ts) =
      ap (list_all p) (flat_map-append op_rows t.ops (operations ts)) ∙ list_all-append p (flat_map op_rows t.ops) (flat_map op_rows (operations ts))
      ∙ ap (λ b. b && list_all p (flat_map op_rows (operations ts))) (ops_pass t.ops) ∙ ap (λ b. list_all (λ op. list_all p (op_rows op)) t.ops && b) (txns_pass ts)

  pub all_pass : (h : History) → list_all p (named_rows h)
      ≡ (list_all (λ e. p e.0) (entries h.initial) && list_all (λ t. list_all (λ op. list_all p (op_rows op)) t.ops) h.txns && list_all (λ e. p e.0) (entries h.installed)
      && list_all (λ e. p e.0) (entries h.end_table))
  all_pass h = simp (list_all-append, list_all-map, txns_pass)
