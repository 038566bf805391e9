use Rattle.std.{proofs.Common.{◌≡◌, ℕ, List, ◌++◌, sym, ap, subst, ◌∙◌}, specs.Prelude.{codes}}
use Rattle.serde_json.specs.Written.{compact_text}
use Rattle.lab_history.specs.declared.operation.Op.{Op}
use Rattle.lab_history_file.{specs.Tree.{list_tree, op_tree}, proofs.WrittenTexts.{behind, txn_text}}
use Rattle.lab_history_file.proofs.writing.operations.TxnJsonText.put.Goals as goal

pub returns-clause-text : goal.returns-clause-text
returns-clause-text c =
    let listed = subst (λ (ops : List Op). c.put_list.new.out.items ≡ c.extend_from_slice-2.new.self.items ++ compact_text (list_tree op_tree ops)) c.as_slice.ensures c.in_ok-put_list.ensures.text in
    let from_outcome = behind _ _ (codes "}") c.in_ok-put_outcome.ensures c.in_ok-push.ensures.items in
    let from_ops = behind _ _ _ listed (behind _ (codes ",\"outcome\":") _ c.in_ok-extend_from_slice-3.ensures.items from_outcome) in
    let from_no = behind _ _ _ c.in_ok-put_part.ensures.text (behind _ (codes ",\"ops\":") _ c.in_ok-extend_from_slice-2.ensures.items from_ops) in
    behind _ (codes "{\"no\":") _ c.in_ok-extend_from_slice.ensures.items from_no ∙ ap (λ (text : List ℕ). c.args.out.now.items ++ text) (sym (txn_text c.args.self.now))
