use Rattle.std.proofs.{Common.{ℤ, Bool, ◌||◌, ap, ◌∙◌}, lemmas.Result.{on_ok_weaker}}
use Rattle.lab_table.specs.Predicate.{compares, column}
use Rattle.lab_conditions.specs.Conditions.{any_holds}
use Rattle.lab_conditions.specs.contracts.conditions.Conditions.{the_view}
use Rattle.lab_conditions.proofs.More.{with_id_test, with_value_test}
use Rattle.lab_conditions.proofs.conditions.Conditions.add_comparison.Goals as goal

pub returns-in-Id : goal.returns-in-Id
returns-in-Id c =
    let test : ℤ → Bool = λ n. compares c.args.cmp n c.args.number in
    on_ok_weaker c.add_comparison.result
    (λ more id value. with_id_test (the_view c.self.inside) c.add_comparison.new.self test c.args.col id value c.in-Id.is more ∙ ap (λ old. any_holds old id value || test (column c.args.col id value)) c.self.view_is)
    c.add_comparison.ensures

pub returns-in-Value : goal.returns-in-Value
returns-in-Value c =
    let test : ℤ → Bool = λ n. compares c.args.cmp n c.args.number in
    on_ok_weaker c.add_comparison-in-Value.result
    (λ more id value. with_value_test (the_view c.self.inside) c.add_comparison-in-Value.new.self test c.args.col id value c.in-Value.is more ∙ ap (λ old. any_holds old id value || test (column c.args.col id value)) c.self.view_is)
    c.add_comparison-in-Value.ensures
