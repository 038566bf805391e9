use Rattle.std.proofs.Common.{Some, sym, ap, subst, ◌∙◌}
use Rattle.lab_conditions.specs.Index.{Covers, any_selects}
use Rattle.lab_conditions.specs.contracts.condition_index.ConditionIndex.{the_view}
use Rattle.lab_conditions.proofs.condition_index.ConditionIndex.selects_any.Goals as goal

pub returns-in-Some : goal.returns-in-Some
returns-in-Some c =
    let covers : Covers (Some c.in-Some.tables.items) c.args.statements.now =
    subst (λ tables. Covers (the_view (record { tables = tables })) c.args.statements.now) c.in-Some.is (subst (λ index. Covers index c.args.statements.now) (sym c.self.view_is) c.requires) in
    c.any_selects.ensures ∙ ap (λ tables. any_selects tables c.args.row c.args.value) c.deref.ensures.value ∙ covers c.args.row c.args.value
