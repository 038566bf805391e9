use Rattle.std.{proofs.{Common.{w64, ap, ◌∙◌}, Math.Facts.{to_z-of_z}}, specs.List.{list_any}}
use Rattle.lab_conditions.specs.Column.{leaves, leaves_by}
use Rattle.lab_conditions.proofs.Pairs.{any_left}
use Rattle.lab_conditions.proofs.remainders.Remainders.any_left_by.Goals as goal

pub returns : goal.returns
returns c =
    let moduli = c.self.inside.moduli.keys in
    let pairs = c.self.inside.pairs.keys in
    c.any_left.ensures ∙ ap (λ n. list_any (leaves_by n pairs) moduli) (to_z-of_z {w = w64} {z = c.args.number} c.ranges.number)
    ∙ any_left c.args.number moduli pairs c.self.invariant ∙ ap (list_any (leaves c.args.number)) c.self.view_is
