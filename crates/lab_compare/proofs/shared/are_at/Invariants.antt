use Rattle.std.{proofs.Common.{◌≡◌}, specs.{Prelude.{slice_get}, List.{AllWithin}}}
use Rattle.lab_compare.specs.{Behind.{installed_at}, declared.side.Side.{Side}}
use Rattle.lab_compare.proofs.shared.are_at.Given as goal

abbrev pub invariant-loop-side : goal.invariant-loop-side
invariant-loop-side l = AllWithin (λ (side : Side). installed_at side.commits (slice_get side.summary.cells l.place) ≡ l.count) l.sides 0 l.side-index
