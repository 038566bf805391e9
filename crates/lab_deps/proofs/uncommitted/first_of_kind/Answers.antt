use Rattle.std.proofs.Common.{refl, sym, subst, inr}
use Rattle.lab_deps.{specs.Search.{IsTestedAt}, proofs.TestedFaults.{only_kind}}
use Rattle.lab_deps.proofs.uncommitted.first_of_kind.Goals as goal

pub returns-in_err-found-clause-none : goal.returns-in_err-found-clause-none
returns-in_err-found-clause-none c = λ _ n k row t. c.in_err-found.ensures (record { kind = c.args.kind; place = 0; txn = n; op = k; row = row }) (refl, t)

pub returns-clause-found : goal.returns-clause-found
returns-clause-found c =
    let f = c.in_ok-found.found in
    subst (λ kind. IsTestedAt c.args.history.now kind f.txn f.op f.row) (sym (only_kind c.args.kind f.place f.kind c.in_ok-found.ensures.0.0).1) c.in_ok-found.ensures.0.1

pub returns-clause-first : goal.returns-clause-first
returns-clause-first c = λ n k row t before.
    let f = c.in_ok-found.found in
    c.in_ok-found.ensures.1 (record { kind = c.args.kind; place = 0; txn = n; op = k; row = row }) (refl, t) (inr (sym (only_kind c.args.kind f.place f.kind c.in_ok-found.ensures.0.0).0, before))
