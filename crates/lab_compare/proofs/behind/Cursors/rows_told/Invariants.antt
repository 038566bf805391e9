use Rattle.std.{proofs.Common.{◌≡◌, ◌++◌, drop}, specs.Prelude.{map}}
use Rattle.lab_compare.specs.Behind.{rows_told}
use Rattle.lab_compare.proofs.behind.Cursors.rows_told.Given as goal

abbrev pub invariant-loop-number : goal.invariant-loop-number
invariant-loop-number l = (l.told.items ++ map (rows_told l.place) (drop l.number l.sides) ≡ map (rows_told l.place) l.sides) × (l.self ≡ l.initial.self)
