use Rattle.lab_engine.proofs.{Common.{ap, chain_kept, cond, is_eq, IsSome, kept_at, pending_kept, pending_of, refl, row_cmp, Some, subst, sym, ◌∙◌, tree_get}, RowChanges.{unchanged, ready_still, ready_in}}
use Rattle.lab_engine.proofs.row_states.RowStates.reserve.Goals as goal

pub returns-in-Some-clause-same : goal.returns-in-Some-clause-same
returns-in-Some-clause-same c = record {
  chain = unchanged chain_kept c.args.row (kept_at c.args.self.now) c.reserve.new.self (tree_get row_cmp (c.get_mut.follows.lender c.reserve.new.self))
      ((c.get_mut.follows.holds c.reserve.new.self).3 (subst IsSome c.in-Some.ensures.value refl)).0
      (c.reserve.ensures.chain ∙ ap chain_kept c.in-Some.ensures.value);
  pending = λ other n. unchanged (λ o. pending_kept o n) c.args.row (kept_at c.args.self.now) c.reserve.new.self (tree_get row_cmp (c.get_mut.follows.lender c.reserve.new.self))
      ((c.get_mut.follows.holds c.reserve.new.self).3 (subst IsSome c.in-Some.ensures.value refl)).0
      (ap (λ vs. pending_of (record { chain = c.reserve.new.self.chain; pending = vs; places = 0 }) n) c.reserve.ensures.pending ∙ ap (λ o. pending_kept o n) c.in-Some.ensures.value) other;
}

pub returns-in-Some-clause-still : goal.returns-in-Some-clause-still
returns-in-Some-clause-still c =
    ready_still c.args.row c.reserve.new.self (kept_at c.args.self.now) (tree_get row_cmp (c.get_mut.follows.lender c.reserve.new.self))
    ((c.get_mut.follows.holds c.reserve.new.self).3 (subst IsSome c.in-Some.ensures.value refl)).0
    (λ was. c.reserve.ensures.still (ready_in c.in-Some.kept.now (kept_at c.args.self.now c.args.row) (sym c.in-Some.ensures.value) was))

pub returns-clause-same : goal.returns-clause-same
returns-clause-same c = record {
  chain = unchanged chain_kept c.args.row (kept_at c.args.self.now) c.reserve-2.new.self (tree_get row_cmp c.insert.new.self)
      (λ q. c.in_ok-insert.ensures.updates.0 q ∙ ap (λ m. cond (is_eq (row_cmp c.args.row q)) (Some c.reserve-2.new.self) (tree_get row_cmp m q)) c.get_mut.follows.holds-at-none)
      (c.in_ok-reserve.ensures.chain ∙ c.new-kept.ensures.chain ∙ ap chain_kept c.in_default.ensures.value);
  pending = λ other n. unchanged (λ o. pending_kept o n) c.args.row (kept_at c.args.self.now) c.reserve-2.new.self (tree_get row_cmp c.insert.new.self)
      (λ q. c.in_ok-insert.ensures.updates.0 q ∙ ap (λ m. cond (is_eq (row_cmp c.args.row q)) (Some c.reserve-2.new.self) (tree_get row_cmp m q)) c.get_mut.follows.holds-at-none)
      (ap (λ vs. pending_of (record { chain = c.reserve-2.new.self.chain; pending = vs; places = 0 }) n) c.in_ok-reserve.ensures.pending ∙ c.new-kept.ensures.pending n
      ∙ ap (λ o. pending_kept o n) c.in_default.ensures.value) other;
}

pub returns-clause-still : goal.returns-clause-still
returns-clause-still c =
    ready_still c.args.row c.reserve-2.new.self (kept_at c.args.self.now) (tree_get row_cmp c.insert.new.self)
    (λ q. c.in_ok-insert.ensures.updates.0 q ∙ ap (λ m. cond (is_eq (row_cmp c.args.row q)) (Some c.reserve-2.new.self) (tree_get row_cmp m q)) c.get_mut.follows.holds-at-none)
    (λ was. c.in_ok-reserve.ensures.ready)
