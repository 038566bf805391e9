use Rattle.std.proofs.{Common.{ℤ, Bool, ◌||◌, ap, ◌∙◌}, lemmas.Result.{on_ok_weaker}}
use Rattle.std.specs.{List.{list_any}, Ordering.{int_eq}}
use Rattle.lab_table.specs.Predicate.{column}
use Rattle.lab_conditions.specs.Conditions.{any_holds}
use Rattle.lab_conditions.specs.contracts.conditions.Conditions.{the_view}
use Rattle.lab_conditions.proofs.More.{with_id_test, with_value_test}
use Rattle.lab_conditions.proofs.conditions.Conditions.add_numbers.Goals as goal

pub returns-in-Id : goal.returns-in-Id
returns-in-Id c =
    let test : ℤ → Bool = λ n. list_any (int_eq n) c.args.numbers.now in
    on_ok_weaker c.add_numbers.result
    (λ more id value. with_id_test (the_view c.self.inside) c.add_numbers.new.self test c.args.col id value c.in-Id.is more ∙ ap (λ old. any_holds old id value || test (column c.args.col id value)) c.self.view_is)
    c.add_numbers.ensures

pub returns-in-Value : goal.returns-in-Value
returns-in-Value c =
    let test : ℤ → Bool = λ n. list_any (int_eq n) c.args.numbers.now in
    on_ok_weaker c.add_numbers-in-Value.result
    (λ more id value. with_value_test (the_view c.self.inside) c.add_numbers-in-Value.new.self test c.args.col id value c.in-Value.is more ∙ ap (λ old. any_holds old id value || test (column c.args.col id value)) c.self.view_is)
    c.add_numbers-in-Value.ensures
