use Rattle.std.{proofs.Common.{◌++◌, refl}, specs.Prelude.{codes}}
use Rattle.lab_printing.proofs.Appended.{rest_appended}
use Rattle.lab_picture.specs.Svg.{numbers_text, view_text}
use Rattle.lab_picture.proofs.svg.put_view.Goals as goal

pub returns : goal.returns
unfolding view_text
returns c =
    rest_appended c.put_numbers.result c.args.out.now.items (codes " viewBox=\"0 0 ") (numbers_text c.args.width c.args.height) c.extend_from_slice.new.self.items
    c.put_numbers.new.out.items (codes " viewBox=\"0 0 " ++ numbers_text c.args.width c.args.height) c.in_ok-extend_from_slice.ensures.items c.put_numbers.ensures refl
