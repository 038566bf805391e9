use Rattle.std.proofs.Common.{◌≡◌, ◌-◌, ◌+◌, ◌++◌, sym, subst, arith}
use Rattle.lab_matrix.{specs.MatrixText.{spaces}, proofs.Padding.{space_more}}
use Rattle.lab_matrix.proofs.matrix_text.put_spaces.Goals as goal

pub loop-column-preserved : goal.loop-column-preserved
loop-column-preserved c =
    subst (λ items. items ++ spaces (c.args.width - (c.loop-column._column + 1)) ≡ c.args.out.now.items ++ spaces (c.args.width - c.args.used)) (sym c.in_ok-push.ensures.items)
    (space_more c.loop-column.out.items _ c.loop-column._column c.args.width (omega arith) c.loop-column.invariant)
