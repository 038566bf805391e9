use Rattle.std.{proofs.{Common.{◌≡◌, ◌||◌, take, w64, of_z, to_z, sym, ap, ◌∙◌}, Math.Facts.{to_z-of_z}, lemmas.List.Folds.{list_any_more}}, specs.{List.{list_any}, Ordering.{int_eq}}}
use Rattle.lab_conditions.specs.Column.{passes}
use Rattle.lab_conditions.proofs.Ors.{or_assoc}
use Rattle.lab_conditions.proofs.column_tests.ColumnTests.add_numbers.Goals as goal

pub loop-number-preserved : goal.loop-number-preserved
loop-number-preserved c = λ n.
    let ns = c.args.numbers.now in
    let i = c.loop-number.number-index in
    let old = passes c.args.self.now n in
    let number : to_z w64 (of_z w64 c.number.result) ≡ c.number-item.result = to_z-of_z {w = w64} {z = c.number.result} (record { sfits = c.number.type_inv }) ∙ c.number.ensures.value in
    c.in_ok-add_number.ensures n ∙ ap (λ b. b || int_eq n (to_z w64 (of_z w64 c.number.result))) (c.loop-number.invariant n)
    ∙ or_assoc old (list_any (int_eq n) (take i ns)) (int_eq n (to_z w64 (of_z w64 c.number.result)))
    ∙ ap (λ b. old || b) (ap (λ k. list_any (int_eq n) (take i ns) || int_eq n k) (number ∙ c.number-item.is) ∙ sym (list_any_more (int_eq n) ns i c.number-item.result c.loop-number-test.true))
