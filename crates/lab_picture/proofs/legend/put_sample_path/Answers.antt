use Rattle.std.{proofs.Common.{◌++◌, refl}, specs.Prelude.{codes}}
use Rattle.lab_printing.proofs.Appended.{rest_appended}
use Rattle.lab_picture.specs.Heading.{sample_end, sample_path}
use Rattle.lab_picture.proofs.legend.put_sample_path.Goals as goal

pub returns : goal.returns
unfolding sample_path
returns c =
    rest_appended c.put_sample_end.result c.args.out.now.items (codes "<path d=\"M26 ") (sample_end c.args.y c.args.dashed) c.extend_from_slice.new.self.items
    c.put_sample_end.new.out.items (codes "<path d=\"M26 " ++ sample_end c.args.y c.args.dashed) c.in_ok-extend_from_slice.ensures.items c.put_sample_end.ensures refl
