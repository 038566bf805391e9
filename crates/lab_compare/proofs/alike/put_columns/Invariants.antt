use Rattle.std.proofs.Common.{◌≡◌, ◌++◌, drop}
use Rattle.lab_compare.specs.Alike.{columns_behind}
use Rattle.lab_compare.proofs.alike.put_columns.Given as goal

abbrev pub invariant-loop-side : goal.invariant-loop-side
invariant-loop-side l = l.out.items ++ columns_behind l.of l.used (drop l.side-index l.sides) ≡ l.initial.out.items ++ columns_behind l.of l.lead l.sides
