use Rattle.lab_engine.proofs.{Common.{ap, chain_kept, cond, IsSome, kept_at, longer, None, pending_kept, refl, row_cmp, subst, sym, ◌==◌, ◌∙◌, tree_get}, RowChanges.{changed, changed_if, left, left_off}}
use Rattle.lab_engine.proofs.row_states.RowStates.install.Goals as goal

pub returns-in-Some-clause-chain : goal.returns-in-Some-clause-chain
returns-in-Some-clause-chain c =
    changed chain_kept c.args.row (kept_at c.args.self.now) c.install.new.self (tree_get row_cmp (c.get_mut.follows.lender c.install.new.self))
    ((c.get_mut.follows.holds c.install.new.self).3 (subst IsSome c.in-Some.ensures.value refl)).0
    (λ o. longer c.args.by c.args.place (pending_kept o c.args.session) (chain_kept o))
    (c.install.ensures.chain ∙ ap (λ o. longer c.args.by c.args.place (pending_kept o c.args.session) (chain_kept o)) c.in-Some.ensures.value)

pub returns-in-Some-clause-pending : goal.returns-in-Some-clause-pending
returns-in-Some-clause-pending c = λ other n.
    changed_if (λ o. pending_kept o n) c.args.row (kept_at c.args.self.now) c.install.new.self (tree_get row_cmp (c.get_mut.follows.lender c.install.new.self))
    ((c.get_mut.follows.holds c.install.new.self).3 (subst IsSome c.in-Some.ensures.value refl)).0 (n == c.args.session) None
    (c.install.ensures.pending n ∙ ap (λ o. cond (n == c.args.session) None (pending_kept o n)) c.in-Some.ensures.value) other

pub returns-in_default-clause-chain : goal.returns-in_default-clause-chain
returns-in_default-clause-chain c = λ other.
    ap (λ m. chain_kept (tree_get row_cmp m other)) c.get_mut.follows.holds-at-none
    ∙ left chain_kept c.args.row (kept_at c.args.self.now) (λ o. longer c.args.by c.args.place (pending_kept o c.args.session) (chain_kept o))
    (ap chain_kept (sym c.in_default.ensures.value) ∙ ap (λ o. longer c.args.by c.args.place (pending_kept o c.args.session) (chain_kept o)) c.in_default.ensures.value) other

pub returns-in_default-clause-pending : goal.returns-in_default-clause-pending
returns-in_default-clause-pending c = λ other n.
    ap (λ m. pending_kept (tree_get row_cmp m other) n) c.get_mut.follows.holds-at-none
    ∙ left_off (λ o. pending_kept o n) c.args.row (kept_at c.args.self.now) (n == c.args.session) None (ap (λ o. pending_kept o n) (sym c.in_default.ensures.value)) other
