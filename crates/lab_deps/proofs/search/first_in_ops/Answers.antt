use Rattle.std.{proofs.{Common.{◌≡◌, ℕ, ◌+◌, ◌-◌, ◌==◌, Option, Some, List, length, refl, sym, ap, ◌∙◌, subst, arith, add-one}, lemmas.Option.{slice_get_read, same_Some}}, specs.{Prelude.{slice_get}}}
use Rattle.lab_history.specs.{Version.{op_at}, declared.operation.Op.{Op}}
use Rattle.lab_deps.specs.{FaultOrder.{place_among}, Fine.{IsFineView}, FirstOf.{IsFirstOf}, Search.{ComesFirst, IsSoughtTo, IsSoughtAt}, declared.kind.OpFault.{OpFault}}
use Rattle.lab_deps.proofs.{FineReads.{next_fine, view_breaks}, Searches.{bounded, step, settled, ops_passed}}
use Rattle.lab_deps.proofs.search.first_in_ops.Goals as goal

same_number : (i : ℕ) → i + 1 - 1 ≡ i
same_number i = omega arith

pub kinds_before-left-requires : goal.kinds_before-left-requires
kinds_before-left-requires c = bounded c.args.history.now c.args.kinds.now (place_among c.args.history.now.txns c.args.txn) c.loop-index.index c.loop-index.found c.loop-index.invariant.first

pub returns-then-is_empty : goal.returns-then-is_empty
returns-then-is_empty c =
    let h = c.args.history.now in
    let kinds = c.args.kinds.now in
    settled h kinds c.args.txn c.loop-index.index c.loop-index.found (ap (λ (ks : List (Option OpFault)). length ks == 0) (sym c.kinds_before-left.ensures) ∙ sym c.is_empty.ensures ∙ c.if-is_empty.true) c.loop-index.invariant.first

pub sees_fine-fine-requires-clause-again : goal.sees_fine-fine-requires-clause-again
sees_fine-fine-requires-clause-again c = λ t.
    let w = c.sees_again-again.ensures t in
    subst (IsFineView c.args.history.now c.args.txn (c.loop-index.index + 1)) w.1.2
    (c.loop-index.invariant.fine w.0 w.1.0 (sym (c.op_of-before.ensures ∙ ap (op_at c.args.ops.now) (same_number c.loop-index.index)) ∙ w.1.1))

pub first_at_step-requires : goal.first_at_step-requires
first_at_step-requires c =
    let op = c.index-ops-index.result in
    let i = c.loop-index.index in
    let read : slice_get c.args.ops.now i ≡ Some op = slice_get_read c.args.ops.now (length c.args.ops.now) i op refl c.loop-index-test.true c.index-ops-index.is in
    record {
      there = (c.requires.committed, ap (λ ops. op_at ops (i + 1)) c.requires.ops ∙ ap (op_at c.args.ops.now) (add-one i) ∙ read);
      counted = omega arith;
      behind = c.op_of-before.ensures ∙ ap (λ ops. op_at ops (i + 1 - 1)) (sym c.requires.ops);
      same = λ t before e. let w = c.sees_again-again.ensures t in ap (λ (b : Op). b.view) (same_Some before w.1.0 (sym e ∙ w.1.1)) ∙ w.1.2;
      fine = λ t. view_breaks c.args.history.now c.args.txn (i + 1) op c.requires.committed (c.sees_fine-fine.ensures t);
    }

pub loop-index-preserved : goal.loop-index-preserved
loop-index-preserved c =
    let h = c.args.history.now in
    let n = c.args.txn in
    let kinds = c.args.kinds.now in
    let op = c.index-ops-index.result in
    let i = c.loop-index.index in
    let read : slice_get c.args.ops.now i ≡ Some op = slice_get_read c.args.ops.now (length c.args.ops.now) i op refl c.loop-index-test.true c.index-ops-index.is in
    record {
      first =
          subst (IsFirstOf (ComesFirst h) (IsSoughtTo h kinds (place_among h.txns n) (i + 1))) (sym c.or-found.ensures)
          (step h kinds n i c.requires.committed c.loop-index.found c.first_at_step.result c.loop-index.invariant.first
          (subst (λ ks. IsFirstOf (ComesFirst h) (IsSoughtAt h ks n (i + 1)) c.first_at_step.result) c.kinds_before-left.ensures c.first_at_step.ensures));
      fine = λ t before e.
          let is : op ≡ before = same_Some op before (sym read ∙ ap (op_at c.args.ops.now) (sym (add-one i)) ∙ e) in
          next_fine h n (i + 1) before.view (subst (λ b. IsFineView h n (i + 1) b.view) is (c.sees_fine-fine.ensures t));
      sorted = c.known_of-known.ensures.sorted;
      known = λ row v e. let w = c.known_of-known.ensures.seen row v e in next_fine h n (i + 1) op.view (c.sees_fine-fine.ensures w.0) row v w.1;
    }

pub returns : goal.returns
returns c =
    ops_passed c.args.history.now c.args.kinds.now c.args.txn c.requires.committed c.args.ops.now c.requires.ops c.loop-index.index c.loop-index-test.false c.loop-index.found c.loop-index.invariant.first
