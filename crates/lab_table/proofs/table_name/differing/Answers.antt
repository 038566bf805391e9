use Rattle.std.{proofs.{Common.{◌^◌, ◌%◌, ap, ◌∙◌, arith, w8}, lemmas.Simd.{tops_compared, length-zip2, mask_l-mod}}, specs.Simd.Lanes.{mask_l}}
use Rattle.lab_table.specs.Differences.{differ}
use Rattle.lab_table.proofs.table_name.differing.Goals as goal

pub returns : goal.returns
returns c =
    ap (λ bits. mask_l bits % 2 ^ 64) (tops_compared w8 differ c.args.a c.args.b)
    ∙ mask_l-mod _ 64 (omega (arith, length-zip2 differ c.args.a c.args.b (omega arith)))
