use Rattle.std.proofs.Common.{◌≡◌, ◌-◌, ◌+◌, ◌++◌, sym, subst, arith}
use Rattle.lab_matrix.specs.MatrixText.{spaces}
use Rattle.lab_compare.proofs.Spaces.{space_more}
use Rattle.lab_compare.proofs.alike.put_spaces.Goals as goal

pub loop-column-preserved : goal.loop-column-preserved
loop-column-preserved c =
    subst (λ items. items ++ spaces (12 - (c.loop-column._column + 1)) ≡ c.args.out.now.items ++ spaces (12 - c.args.used)) (sym c.in_ok-push.ensures.items)
    (space_more c.loop-column.out.items _ c.loop-column._column 12 (omega arith) c.loop-column.invariant)
