use Rattle.std.proofs.{Common.{◌≡◌, ℤ, Bool, ◌||◌, pos, w64, of_z, to_z, refl, ap, ◌∙◌}, Math.Facts.{to_z-of_z}, lemmas.Result.{on_ok_weaker}}
use Rattle.std.specs.Ordering.{int_eq}
use Rattle.lab_table.specs.declared.predicate.Col.TheVariants.{Id}
use Rattle.lab_conditions.specs.{Column.{passes}, Conditions.{any_holds}}
use Rattle.lab_conditions.specs.contracts.conditions.Conditions.{the_view}
use Rattle.lab_conditions.proofs.More.{with_id_test}
use Rattle.lab_conditions.proofs.conditions.Conditions.add_id.Goals as goal

pub returns : goal.returns
returns c =
    let test : ℤ → Bool = λ n. int_eq n (pos c.args.own) in
    let number : to_z w64 (of_z w64 c.from.result) ≡ pos c.args.own = to_z-of_z {w = w64} {z = c.from.result} (record { sfits = c.from.type_inv }) ∙ c.from.ensures ∙ ap pos c.number.ensures.value in
    on_ok_weaker c.add_number.result
    (λ more id value. with_id_test (the_view c.self.inside) c.add_number.new.self test Id id value refl (λ n. more n ∙ ap (λ k. passes c.self.inside.ids n || int_eq n k) number) ∙ ap (λ old. any_holds old id value || test (pos id)) c.self.view_is)
    c.add_number.ensures
