use Rattle.std.{proofs.{Common.{◌≡◌, ◌≤◌, ◌<◌, ◌+◌, inr, [], length, take, sym, ap, ◌∙◌, arith}, lemmas.Grind.{common_steps}}, specs.{Ordering.{nat_cmp}, BTreeSet.{contains}}}
use Rattle.lab_history.{specs.{HistoryRules.{operations}, FirstPartsFault.{ops_checked, txns_checked}}, proofs.CheckedTxns.{repeated, too_many, operations_decide, operations_here, walk_stops, walk_goes, was_there, was_absent, gives_fault}}
use Rattle.lab_history.specs.declared.fault.FileFault.TheVariants as fault
use Rattle.lab_history.specs.declared.fault.Limit.TheVariants as limit
use Rattle.lab_history.proofs.checking.check_txns.Goals as goal

pub returns-then-not-branch : goal.returns-then-not-branch
returns-then-not-branch c =
    let ts = c.args.txns.now in
    let i = c.loop-index.index in
    let t = c.index-txns-index.result in
    let met = sym (c.loop-index.invariant.1 t.no) ∙ was_there (contains nat_cmp c.loop-index.numbers t.no) c.in_ok-insert.field-0 c.in_ok-insert.ensures.added c.if-not-branch.true in
    inr (sym c.loop-index.invariant.0 ∙ walk_stops ts i t c.loop-index-test.true c.index-txns-index.is (fault.RepeatedTxn t.no) (repeated (take i ts) i t met))

pub returns-then-ops-operations : goal.returns-then-ops-operations
returns-then-ops-operations c =
    let ts = c.args.txns.now in
    let i = c.loop-index.index in
    let t = c.index-txns-index.result in
    let new = sym (c.loop-index.invariant.1 t.no) ∙ was_absent (contains nat_cmp c.loop-index.numbers t.no) c.in_ok-insert.field-0 c.in_ok-insert.ensures.added c.if-not-branch.false in
    let ops : c.as_slice-ops.result.now ≡ t.ops = c.as_slice-ops.ensures in
    let many : 10000 < length (operations (take i ts)) + length t.ops = omega (arith, c.if-ops-operations.true, ap length ops, c.loop-index.invariant.2, c.loop-index.invariant.3) in
    inr (sym c.loop-index.invariant.0 ∙ walk_stops ts i t c.loop-index-test.true c.index-txns-index.is (fault.OverLimit limit.Operations) (too_many (take i ts) i t new many))

pub returns-in_err-check_ops : goal.returns-in_err-check_ops
returns-in_err-check_ops c =
    let ts = c.args.txns.now in
    let i = c.loop-index.index in
    let t = c.index-txns-index.result in
    let new = sym (c.loop-index.invariant.1 t.no) ∙ was_absent (contains nat_cmp c.loop-index.numbers t.no) c.in_ok-insert.field-0 c.in_ok-insert.ensures.added c.if-not-branch.false in
    let ops : c.as_slice-ops.result.now ≡ t.ops = c.as_slice-ops.ensures in
    let few : length (operations (take i ts)) + length t.ops ≤ 10000 = omega (arith, c.if-ops-operations.false, ap length ops, c.loop-index.invariant.2, c.loop-index.invariant.3) in
    let fault = sym (c.check_ops.ensures ∙ ap (ops_checked i t.no 0) ops) ∙ c.in_err-check_ops.was in
    gives_fault c.from_residual-in_err-check_ops.result c.in_err-check_ops.field-0.0 (txns_checked [] 0 ts) c.from_residual-in_err-check_ops.ensures.1
    (sym c.loop-index.invariant.0 ∙ walk_stops ts i t c.loop-index-test.true c.index-txns-index.is c.in_err-check_ops.field-0.0 (operations_decide (take i ts) i t new few ∙ fault))

pub loop-index-preserved : goal.loop-index-preserved
loop-index-preserved c =
    let ts = c.args.txns.now in
    let i = c.loop-index.index in
    let t = c.index-txns-index.result in
    let new = sym (c.loop-index.invariant.1 t.no) ∙ was_absent (contains nat_cmp c.loop-index.numbers t.no) c.in_ok-insert.field-0 c.in_ok-insert.ensures.added c.if-not-branch.false in
    let ops : c.as_slice-ops.result.now ≡ t.ops = c.as_slice-ops.ensures in
    let few : length (operations (take i ts)) + length t.ops ≤ 10000 = omega (arith, c.if-ops-operations.false, ap length ops, c.loop-index.invariant.2, c.loop-index.invariant.3) in
    let sound = sym (c.check_ops.ensures ∙ ap (ops_checked i t.no 0) ops) ∙ c.in_ok-check_ops.was in (
      sym (walk_goes ts i t c.loop-index-test.true c.index-txns-index.is (operations_decide (take i ts) i t new few ∙ sound)) ∙ c.loop-index.invariant.0,
      (λ q. grind (arith, common_steps, c.loop-index.invariant.1 q)),
      omega (arith, operations_here ts i t c.loop-index-test.true c.index-txns-index.is, c.loop-index.invariant.2, ap length ops),
      omega (arith, c.if-ops-operations.false, c.loop-index.invariant.3),
    )
