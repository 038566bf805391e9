use Rattle.lab_engine.proofs.{Common.{ap, chain_kept, cond, IsSome, kept_at, pending_kept, refl, row_cmp, Some, subst, ◌==◌, ◌∙◌, tree_get}, RowChanges.{changed_if, unchanged, ready_still}}
use Rattle.lab_engine.proofs.row_states.RowStates.hold.Goals as goal

pub returns-in-Some-clause-chain : goal.returns-in-Some-clause-chain
returns-in-Some-clause-chain c =
    unchanged chain_kept c.args.row (kept_at c.args.self.now) c.hold.new.self (tree_get row_cmp (c.get_mut.follows.lender c.hold.new.self))
    ((c.get_mut.follows.holds c.hold.new.self).3 (subst IsSome c.in-Some.ensures.value refl)).0
    (c.hold.ensures.chain ∙ ap chain_kept c.in-Some.ensures.value)

pub returns-in-Some-clause-pending : goal.returns-in-Some-clause-pending
returns-in-Some-clause-pending c = λ other n.
    changed_if (λ o. pending_kept o n) c.args.row (kept_at c.args.self.now) c.hold.new.self (tree_get row_cmp (c.get_mut.follows.lender c.hold.new.self))
    ((c.get_mut.follows.holds c.hold.new.self).3 (subst IsSome c.in-Some.ensures.value refl)).0 (n == c.args.session) (Some c.args.version)
    (c.hold.ensures.pending n ∙ ap (λ o. cond (n == c.args.session) (Some c.args.version) (pending_kept o n)) c.in-Some.ensures.value) other

pub returns-in-Some-clause-ready : goal.returns-in-Some-clause-ready
returns-in-Some-clause-ready c =
    ready_still c.args.row c.hold.new.self (kept_at c.args.self.now) (tree_get row_cmp (c.get_mut.follows.lender c.hold.new.self))
    ((c.get_mut.follows.holds c.hold.new.self).3 (subst IsSome c.in-Some.ensures.value refl)).0 (λ was. c.hold.ensures.ready)
