use Rattle.std.{proofs.{Common.{◌≡◌, T, Bool, true, ◌&&◌, sym, ap, subst, ◌∙◌}, lemmas.Bool.{and_from}}, specs.{List.{list_all}, FinMap.{entries, entries_sorted, is_sorted}}}
use Rattle.lab_table.specs.Row.{Row, row_cmp}
use Rattle.lab_history.{specs.{HistoryRules.{op_rows}, IdRanges.{have_row}}, proofs.{NamedRows.{all_pass}, id_range.IdRanges.have_all.Goals.{then-have_rows, else-have_rows, then-have_txns, else-have_txns}}}
use Rattle.lab_history.proofs.id_range.IdRanges.have_all.Goals as goal

pub have_rows-requires : goal.have_rows-requires
have_rows-requires c = subst (λ es. T (is_sorted row_cmp es)) (sym c.rows.ensures) (entries_sorted c.args.parts.now.initial)

pub have_rows-requires-then-have_txns : goal.have_rows-requires-then-have_txns
have_rows-requires-then-have_txns c = subst (λ es. T (is_sorted row_cmp es)) (sym c.entries.ensures) (entries_sorted c.args.parts.now.installed)

pub have_rows-requires-then-have_rows-2 : goal.have_rows-requires-then-have_rows-2
have_rows-requires-then-have_rows-2 c = subst (λ es. T (is_sorted row_cmp es)) (sym c.rows-then-have_rows-2.ensures) (entries_sorted c.args.parts.now.end_table)

pub returns-then-have_rows-2 : goal.returns-then-have_rows-2
returns-then-have_rows-2 c =
    let p : Row → Bool = have_row c.args.self.now.ranges in
    let parts = c.args.parts.now in
    elim c.if-have_txns.branch [
      | then-have_txns w ↦ elim c.if-have_rows.branch [
        | then-have_rows v ↦
            let initial : list_all (λ e. p e.0) (entries parts.initial) ≡ true = ap (list_all (λ e. p e.0)) (sym c.rows.ensures) ∙ sym c.have_rows.ensures ∙ v.if-have_rows.true in
            let txns : list_all (λ t. list_all (λ op. list_all p (op_rows op)) t.ops) parts.txns ≡ true =
            ap (list_all (λ t. list_all (λ op. list_all p (op_rows op)) t.ops)) (sym v.as_slice.ensures) ∙ sym v.have_txns.ensures ∙ sym v.value-is ∙ w.if-have_txns.true in
            let installed : list_all (λ e. p e.0) (entries parts.installed) ≡ true =
            ap (list_all (λ e. p e.0)) (sym w.entries.ensures) ∙ sym w.have_rows-then-have_txns.ensures ∙ sym w.value-is ∙ c.if-have_rows-2.true in
            c.have_rows-then-have_rows-2.ensures ∙ ap (list_all (λ e. p e.0)) c.rows-then-have_rows-2.ensures
            ∙ sym (all_pass p parts ∙ ap (λ b. b && list_all (λ e. p e.0) (entries parts.end_table)) (and_from _ _ (and_from _ _ initial txns) installed))
        | else-have_rows v ↦ cc
      ]
      | else-have_txns w ↦ cc
    ]
