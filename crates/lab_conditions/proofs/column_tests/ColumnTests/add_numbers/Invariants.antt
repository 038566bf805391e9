use Rattle.std.{proofs.Common.{◌≡◌, ℤ, ◌||◌, take}, specs.{List.{list_any}, Ordering.{int_eq}}}
use Rattle.lab_conditions.specs.Column.{passes}
use Rattle.lab_conditions.proofs.column_tests.ColumnTests.add_numbers.Given as goal

abbrev pub invariant-loop-number : goal.invariant-loop-number
invariant-loop-number l = (n : ℤ) → passes l.self n ≡ (passes l.initial.self n || list_any (int_eq n) (take l.number-index l.numbers))
