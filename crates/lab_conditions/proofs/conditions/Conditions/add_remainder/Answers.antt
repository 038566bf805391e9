use Rattle.std.proofs.{Common.{ℤ, Bool, ◌||◌, ap, ◌∙◌}, lemmas.Result.{on_ok_weaker}}
use Rattle.lab_table.specs.Predicate.{column}
use Rattle.lab_conditions.specs.Column.{leaves}
use Rattle.lab_conditions.specs.Conditions.{any_holds}
use Rattle.lab_conditions.specs.contracts.conditions.Conditions.{the_view}
use Rattle.lab_conditions.proofs.More.{with_id_test, with_value_test}
use Rattle.lab_conditions.proofs.conditions.Conditions.add_remainder.Goals as goal

pub returns-in-Id : goal.returns-in-Id
returns-in-Id c =
    let test : ℤ → Bool = λ n. leaves n (c.args.modulus, c.args.rest) in
    on_ok_weaker c.add_remainder.result
    (λ more id value. with_id_test (the_view c.self.inside) c.add_remainder.new.self test c.args.col id value c.in-Id.is more ∙ ap (λ old. any_holds old id value || test (column c.args.col id value)) c.self.view_is)
    c.add_remainder.ensures

pub returns-in-Value : goal.returns-in-Value
returns-in-Value c =
    let test : ℤ → Bool = λ n. leaves n (c.args.modulus, c.args.rest) in
    on_ok_weaker c.add_remainder-in-Value.result
    (λ more id value. with_value_test (the_view c.self.inside) c.add_remainder-in-Value.new.self test c.args.col id value c.in-Value.is more ∙ ap (λ old. any_holds old id value || test (column c.args.col id value)) c.self.view_is)
    c.add_remainder-in-Value.ensures
