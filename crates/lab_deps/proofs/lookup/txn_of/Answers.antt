use Rattle.std.proofs.{Common.{◌∙◌, sym, ap}, lemmas.Bool.{ltb-true, eqb-true}}
use Rattle.lab_history.specs.Version.{find_txn}
use Rattle.lab_deps.proofs.KeptTxns.{txn_at}
use Rattle.lab_deps.proofs.lookup.txn_of.Goals as goal

pub returns-then-eq : goal.returns-then-eq
returns-then-eq c =
    let found = c.in-Some-get.found.now in
    sym (txn_at c.args.history.now c.as_slice-txns.result.now _ found c.txns.ensures.keeps (c.as_slice-txns.ensures ∙ c.txns.ensures.value) (ltb-true _ _ (sym c.in-Some-get.ensures.lookup.0)) c.in-Some-get.ensures.lookup.1).found
    ∙ ap (find_txn c.args.history.now.txns) (eqb-true found.no c.args.number (sym c.eq.ensures ∙ c.if-eq.true))
