use Rattle.std.{proofs.{Common.{length, sym, ◌∙◌, ◌+◌, subst, ◌≤◌}}}
use Rattle.lab_deps.specs.{FirstOf.{IsFirstOf}, Search.{ComesFirst, IsSoughtTo}}
use Rattle.lab_deps.proofs.{KeptTxns.{txn_at, place_there}, Searches.{at_start, at_end}}
use Rattle.lab_deps.proofs.search.first_at_ops.Goals as goal

pub loop-txn-init : goal.loop-txn-init
loop-txn-init c = at_start c.args.history.now c.args.kinds.now

pub first_in_txn-found-requires-clause-txn : goal.first_in_txn-found-requires-clause-txn
first_in_txn-found-requires-clause-txn c =
    txn_at c.args.history.now _ c.loop-txn.txn-index c.txn-item.result c.txns.ensures.keeps (c.as_slice-txns.ensures ∙ c.txns.ensures.value) c.loop-txn-test.true c.txn-item.is

pub first_in_txn-found-requires-clause-found : goal.first_in_txn-found-requires-clause-found
first_in_txn-found-requires-clause-found c =
    subst (λ p. IsFirstOf (ComesFirst c.args.history.now) (IsSoughtTo c.args.history.now c.args.kinds.now p 0) c.loop-txn.found)
    (sym (place_there c.args.history.now _ c.loop-txn.txn-index c.txn-item.result c.txns.ensures.keeps (c.as_slice-txns.ensures ∙ c.txns.ensures.value) c.loop-txn-test.true c.txn-item.is))
    c.loop-txn.invariant

pub loop-txn-preserved : goal.loop-txn-preserved
loop-txn-preserved c =
    subst (λ p. IsFirstOf (ComesFirst c.args.history.now) (IsSoughtTo c.args.history.now c.args.kinds.now (p + 1) 0) c.first_in_txn-found.result)
    (place_there c.args.history.now _ c.loop-txn.txn-index c.txn-item.result c.txns.ensures.keeps (c.as_slice-txns.ensures ∙ c.txns.ensures.value) c.loop-txn-test.true c.txn-item.is)
    c.first_in_txn-found.ensures

pub returns : goal.returns
returns c =
    at_end c.args.history.now c.args.kinds.now c.loop-txn.txn-index
    (subst (λ ts. length ts ≤ c.loop-txn.txn-index) (c.as_slice-txns.ensures ∙ c.txns.ensures.value) c.loop-txn-test.false) c.loop-txn.found c.loop-txn.invariant
