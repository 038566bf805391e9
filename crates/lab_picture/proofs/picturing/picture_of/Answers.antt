use Rattle.std.proofs.{Common.{◌∙◌, ap}, lemmas.Result.{IfOk-weaker}}
use Rattle.lab_picture.specs.{Forward.{with_forward}, Svg.{svg_of}}
use Rattle.lab_picture.proofs.picturing.picture_of.Goals as goal

pub returns : goal.returns
returns c =
    IfOk-weaker c.print_drawing.result _ _
    (λ text is.
    record {
      report = c.in-Ok.report;
      judgement = c.in-Ok.ensures.exact;
      forward = c.in_ok-forward.forward.items;
      leads = c.in_ok-forward.ensures;
      text_is =
          is ∙ ap (svg_of c.args.history.now) (c.with_forward-drawing.ensures ∙ ap (with_forward c.in_ok-forward.forward.items) c.in_ok-draw.ensures);
    })
    c.print_drawing.ensures
