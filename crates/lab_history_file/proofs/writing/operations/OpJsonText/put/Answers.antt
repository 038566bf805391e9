use Rattle.std.{proofs.Common.{ℕ, List, ◌++◌, sym, ap, ◌∙◌}, specs.Prelude.{codes}}
use Rattle.lab_history_file.proofs.{WrittenOperations.{operation_stands}, WrittenTexts.{behind, op_text}}
use Rattle.lab_history_file.proofs.writing.operations.OpJsonText.put.Goals as goal

pub returns-clause-text : goal.returns-clause-text
returns-clause-text c =
    let from_writes = behind _ _ (codes "}") c.in_ok-put_writes.ensures.text c.in_ok-push.ensures.items in
    let from_view = behind _ _ _ c.in_ok-put_view.ensures.text (behind _ (codes ",\"writes\":") _ c.in_ok-extend_from_slice-4.ensures.items from_writes) in
    let from_statement = behind _ _ _ c.in_ok-put_printed.ensures.text (behind _ (codes ",\"view\":") _ c.in_ok-extend_from_slice-3.ensures.items from_view) in
    let from_rows = behind _ _ _ c.in_ok-put_rows.ensures.text (behind _ (codes ",\"statement\":") _ c.in_ok-extend_from_slice-2.ensures.items from_statement) in
    behind _ (codes "{\"rows\":") _ c.in_ok-extend_from_slice.ensures.items from_rows ∙ ap (λ (text : List ℕ). c.args.out.now.items ++ text) (sym (op_text c.args.self.now))

pub returns-clause-file : goal.returns-clause-file
returns-clause-file c = operation_stands c.args.self.now c.in_ok-put_rows.ensures.file c.in_ok-put_printed.ensures.again c.in_ok-put_view.ensures.file c.in_ok-put_writes.ensures.file
