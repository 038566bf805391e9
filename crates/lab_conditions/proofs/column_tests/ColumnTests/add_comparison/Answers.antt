use Rattle.std.proofs.{Common.{◌≡◌, ◌||◌, int_lt, w64, of_z, to_z, sym, ap, ◌∙◌}, Math.Facts.{to_z-of_z}}
use Rattle.lab_table.specs.Predicate.{compares}
use Rattle.lab_table.specs.declared.predicate.Cmp.TheVariants.{Ne}
use Rattle.lab_conditions.specs.Column.{passes}
use Rattle.lab_conditions.proofs.{Ors.{or_assoc}, Sides.{apart}}
use Rattle.lab_conditions.proofs.column_tests.ColumnTests.add_comparison.Goals as goal

pub returns-in-Ne : goal.returns-in-Ne
returns-in-Ne c = λ n.
    let number : to_z w64 (of_z w64 c.number-number.result) ≡ c.args.number = to_z-of_z {w = w64} {z = c.number-number.result} (record { sfits = c.number-number.type_inv }) ∙ c.number-number.ensures.value in
    let old = passes c.args.self.now n in
    let m = to_z w64 (of_z w64 c.number-number.result) in
    c.add_above.ensures n ∙ ap (λ b. b || int_lt m n) (c.add_below.ensures n)
    ∙ or_assoc old (int_lt n m) (int_lt m n) ∙ ap (λ b. old || b) (apart n m ∙ ap (λ k. compares Ne n k) number) ∙ ap (λ cmp. old || compares cmp n c.args.number) (sym c.in-Ne.is)
