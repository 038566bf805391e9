use Rattle.std.{proofs.Common.{◌≡◌, ◌++◌, ap, ◌∙◌, append_assoc, refl}, specs.Prelude.{codes}}
use Rattle.lab_printing.proofs.Appended.{rest_appended}
use Rattle.lab_history.{specs.PathText.{index_text, txn_text}, proofs.Appended.{appended}}
use Rattle.lab_history.proofs.path_text.put_in_txn.Goals as goal

pub returns : goal.returns
returns c =
    let old = c.args.out.now.items in
    let index = index_text c.args.txn in
    let put : c.put_index.new.out.items ≡ old ++ txn_text c.args.txn =
    c.in_ok-put_index.ensures ∙ ap (λ text. text ++ index) c.in_ok-extend_from_slice.ensures.items ∙ append_assoc old (codes "/transactions") index in
    rest_appended c.extend_from_slice-2.result old (txn_text c.args.txn) c.args.key.now _ _ _ put (appended _ _ _ _ c.extend_from_slice-2.ensures.items) refl
