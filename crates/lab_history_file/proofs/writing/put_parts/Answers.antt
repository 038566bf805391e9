use Rattle.std.{proofs.Common.{◌≡◌, ℕ, List, ◌++◌, sym, ap, subst, ◌∙◌}, specs.{Prelude.{codes}, List.{All}}}
use Rattle.serde_json.specs.Written.{compact_text}
use Rattle.lab_history.specs.{HistoryRules.{OpKeeps}, declared.transaction.Txn.{Txn}}
use Rattle.lab_history_file.{specs.Tree.{list_tree, txn_tree}, proofs.{WrittenLists.{txns_pass}, WrittenTexts.{behind, file_text}}}
use Rattle.lab_history_file.proofs.writing.put_parts.Goals as goal

pub put_list-requires : goal.put_list-requires
put_list-requires c = subst (All (λ (t : Txn). All OpKeeps t.ops)) (sym c.as_slice.ensures) (txns_pass _ c.requires.operations_keep)

pub returns-clause-text : goal.returns-clause-text
returns-clause-text c =
    let listed = subst (λ (txns : List Txn). c.put_list.new.out.items ≡ c.extend_from_slice-4.new.self.items ++ compact_text (list_tree txn_tree txns)) c.as_slice.ensures c.in_ok-put_list.ensures.text in
    let from_txns = behind _ _ (codes ",\"version\":2}") listed c.in_ok-extend_from_slice-5.ensures.items in
    let from_installed = behind _ _ _ c.in_ok-put_installed.ensures.text (behind _ (codes ",\"transactions\":") _ c.in_ok-extend_from_slice-4.ensures.items from_txns) in
    let from_initial = behind _ _ _ c.in_ok-put_table-2.ensures.text (behind _ (codes ",\"installed\":") _ c.in_ok-extend_from_slice-3.ensures.items from_installed) in
    let from_end = behind _ _ _ c.in_ok-put_table.ensures.text (behind _ (codes ",\"format\":\"hermitage-history\",\"initial\":") _ c.in_ok-extend_from_slice-2.ensures.items from_initial) in
    behind _ (codes "{\"end\":") _ c.in_ok-extend_from_slice.ensures.items from_end ∙ ap (λ (text : List ℕ). c.args.out.now.items ++ text) (sym (file_text c.args.parts.now))
