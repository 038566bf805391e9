use Rattle.std.proofs.Common.{sym, subst, ◌∙◌}
use Rattle.lab_deps.{specs.{KindSets.{among}, LeastEdge.{IsLeastFitting}, Scopes.{edges_in}}, proofs.LeastOfAll.{installed_by, none_is_least, first_committed, second_committed, row_is_least}}
use Rattle.lab_deps.proofs.least.least_of_two.Goals as goal

pub returns-in-None : goal.returns-in-None
returns-in-None c =
    let a = c.args in
    none_is_least a.scope a.history.now c.requires.allowed a.from a.to (among a.there) (among a.kinds) c.requires.there (sym c.least_kind.ensures ∙ c.in-None.is)

pub least_row-requires-clause-placed : goal.least_row-requires-clause-placed
least_row-requires-clause-placed c = installed_by c.args.scope c.args.history.now c.requires.allowed

pub least_row-requires-clause-first : goal.least_row-requires-clause-first
least_row-requires-clause-first c =
    let a = c.args in
    first_committed a.scope a.history.now c.requires.allowed a.from a.to (among a.there) (among a.kinds) c.requires.there c.in-Some.kind (sym c.least_kind.ensures ∙ c.in-Some.is)

pub least_row-requires-clause-second : goal.least_row-requires-clause-second
least_row-requires-clause-second c =
    let a = c.args in
    second_committed a.scope a.history.now c.requires.allowed a.from a.to (among a.there) (among a.kinds) c.requires.there c.in-Some.kind (sym c.least_kind.ensures ∙ c.in-Some.is)

pub returns-in_ok-row-in-Some : goal.returns-in_ok-row-in-Some
returns-in_ok-row-in-Some c =
    let a = c.args in
    subst (IsLeastFitting (edges_in a.scope a.history.now) a.from a.to (among a.kinds)) (sym c.edge_at.ensures)
    (
    row_is_least a.scope a.history.now c.requires.allowed a.from a.to (among a.there) (among a.kinds) c.requires.there c.in-Some.kind (sym c.least_kind.ensures ∙ c.in-Some.is) c.in_ok-row-in-Some.row
    c.in_ok-row-in-Some.ensures
    )
